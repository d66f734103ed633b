use Rattle.entry_model.proofs.OperationLaws.{access_further}
use Rattle.entry_model.proofs.laws.accesses_only_raise_bits.Goals as goal

pub returns : goal.returns
returns c = access_further
