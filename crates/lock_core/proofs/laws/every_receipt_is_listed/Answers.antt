use Rattle.lock_core.proofs.Listed.{receipt_listed}
use Rattle.lock_core.proofs.laws.every_receipt_is_listed.Goals as goal

pub returns : goal.returns
returns c = receipt_listed
