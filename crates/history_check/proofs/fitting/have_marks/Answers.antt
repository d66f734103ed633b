use Rattle.history_check.proofs.Comparing.{one_marked, all_marked}
use Rattle.history_check.proofs.fitting.have_marks.Goals as goal

pub loop-receipt-preserved : goal.loop-receipt-preserved
loop-receipt-preserved c =
    one_marked c.args.receipts.now c.loop-receipt.receipt-index c.receipt-item.result
    c.loop-receipt-test.true c.receipt-item.is c.has_mark.ensures c.loop-receipt.invariant

pub returns : goal.returns
returns c =
    all_marked c.args.receipts.now c.loop-receipt.receipt-index c.loop-receipt-test.false
    c.loop-receipt.invariant
