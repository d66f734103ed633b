use Rattle.entry_model.proofs.MaskLaws.{masked_where}
use Rattle.entry_model.proofs.laws.masked_exactly_where.Goals as goal

pub returns : goal.returns
returns c = masked_where
