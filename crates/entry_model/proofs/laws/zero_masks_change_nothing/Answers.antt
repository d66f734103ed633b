use Rattle.entry_model.proofs.MaskLaws.{zero_changes_nothing}
use Rattle.entry_model.proofs.laws.zero_masks_change_nothing.Goals as goal

pub returns : goal.returns
returns c = zero_changes_nothing
