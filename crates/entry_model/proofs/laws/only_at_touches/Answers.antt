use Rattle.entry_model.proofs.OperationLaws.{access_undone}
use Rattle.entry_model.proofs.laws.only_at_touches.Goals as goal

pub returns : goal.returns
returns c = access_undone
