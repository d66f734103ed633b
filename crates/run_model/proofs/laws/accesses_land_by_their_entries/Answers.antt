use Rattle.run_model.proofs.AllSafe.{accesses_land}
use Rattle.run_model.proofs.laws.accesses_land_by_their_entries.Goals as goal

pub returns : goal.returns
returns c = accesses_land
