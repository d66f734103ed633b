use Rattle.std.specs.List.{AllByRecursion}
use Rattle.std.proofs.Common.{map, take}
use Rattle.receipt_text.specs.Marks.{IsMark}
use Rattle.receipt_text.specs.Receipts.{mark_of}
use Rattle.history_check.proofs.fitting.have_marks.Given as goal

abbrev pub invariant-loop-receipt : goal.invariant-loop-receipt
invariant-loop-receipt l = AllByRecursion IsMark (map mark_of (take l.receipt-index l.receipts))
