use Rattle.entry_model.proofs.OperationLaws.{stamp_fits}
use Rattle.entry_model.proofs.laws.stamps_stay_low.Goals as goal

pub returns : goal.returns
returns c = stamp_fits
