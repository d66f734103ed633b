use Rattle.run_model.proofs.MaskedAccesses.{zero_masks_refuse}
use Rattle.run_model.proofs.laws.zero_masks_refuse_nothing.Goals as goal

pub returns : goal.returns
returns c = zero_masks_refuse
