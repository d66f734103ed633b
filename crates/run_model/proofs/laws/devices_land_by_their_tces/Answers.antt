use Rattle.run_model.proofs.WindowsSafe.{devices_land}
use Rattle.run_model.proofs.laws.devices_land_by_their_tces.Goals as goal

pub returns : goal.returns
returns c = devices_land
