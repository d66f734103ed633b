use Rattle.run_model.proofs.WindowsSafe.{all_unworn}
use Rattle.run_model.proofs.laws.no_entry_is_worn.Goals as goal

pub returns : goal.returns
returns c = all_unworn
