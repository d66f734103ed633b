use Rattle.authority_mask.proofs.NoMasks.{none_refused}
use Rattle.authority_mask.proofs.laws.no_masks_refuse_nothing.Goals as goal

pub returns : goal.returns
returns c = none_refused
