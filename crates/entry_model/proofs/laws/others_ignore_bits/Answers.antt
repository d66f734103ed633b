use Rattle.entry_model.proofs.OperationLaws.{other_still}
use Rattle.entry_model.proofs.laws.others_ignore_bits.Goals as goal

pub returns : goal.returns
returns c = other_still
