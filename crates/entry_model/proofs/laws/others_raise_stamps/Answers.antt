use Rattle.entry_model.proofs.OperationLaws.{other_rises}
use Rattle.entry_model.proofs.laws.others_raise_stamps.Goals as goal

pub returns : goal.returns
returns c = other_rises
