use Rattle.lock_core.proofs.FrontsKept.{receipts_ahead}
use Rattle.lock_core.proofs.laws.every_receipt_keeps_its_front.Goals as goal

pub returns : goal.returns
returns c =
    λ states actors older fair i step r made. receipts_ahead states fair actors older i step r made
