use Rattle.hpt_walk.proofs.Masked.{masked_where_refused}
use Rattle.hpt_walk.proofs.laws.masked_exactly_where_refused.Goals as goal

pub returns : goal.returns
returns c = masked_where_refused
