use Rattle.hpt_walk.proofs.Masked.{zero_refuses_none}
use Rattle.hpt_walk.proofs.laws.zero_masks_refuse_no_access.Goals as goal

pub returns : goal.returns
returns c = zero_refuses_none
