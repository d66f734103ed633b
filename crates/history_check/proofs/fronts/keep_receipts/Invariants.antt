use Rattle.std.proofs.Common.{take}
use Rattle.history_check.specs.FrontKeeping.{front_of, LeadsTo}
use Rattle.history_check.proofs.FrontSteps.{all_made}
use Rattle.history_check.proofs.fronts.keep_receipts.Given as goal

abbrev pub invariant-loop-receipt : goal.invariant-loop-receipt
invariant-loop-receipt l =
    LeadsTo (front_of l.fn.fronts l.opening) (all_made (take l.receipt-index l.receipts))
    (front_of l.fronts l.opening)
