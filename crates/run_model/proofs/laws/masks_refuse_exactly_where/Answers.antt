use Rattle.run_model.proofs.MaskedAccesses.{masks_refuse}
use Rattle.run_model.proofs.laws.masks_refuse_exactly_where.Goals as goal

pub returns : goal.returns
returns c = masks_refuse
