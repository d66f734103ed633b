use Rattle.entry_model.proofs.OperationLaws.{access_still}
use Rattle.entry_model.proofs.laws.still_accesses_stay_still.Goals as goal

pub returns : goal.returns
returns c = access_still
