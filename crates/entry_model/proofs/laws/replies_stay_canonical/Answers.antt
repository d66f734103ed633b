use Rattle.entry_model.proofs.OperationLaws.{reply_canonical}
use Rattle.entry_model.proofs.laws.replies_stay_canonical.Goals as goal

pub returns : goal.returns
returns c = reply_canonical
