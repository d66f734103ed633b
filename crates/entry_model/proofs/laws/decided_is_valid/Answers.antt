use Rattle.entry_model.proofs.OperationLaws.{decided_valid}
use Rattle.entry_model.proofs.laws.decided_is_valid.Goals as goal

pub returns : goal.returns
returns c = decided_valid
