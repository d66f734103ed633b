use Rattle.std.proofs.Common.{rules}
use Rattle.entry_model.proofs.Exact.{same}
use Rattle.papr_c.proofs.trying.asked.Goals as goal

pub returns-clause-receipt : goal.returns-clause-receipt
returns-clause-receipt c = same _ _ _ _ (search rules) (search rules) (search rules)
