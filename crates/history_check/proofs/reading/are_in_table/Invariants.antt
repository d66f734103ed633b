use Rattle.std.proofs.Common.{◌<◌, take}
use Rattle.std.specs.List.{AllByRecursion}
use Rattle.receipt_text.specs.declared.mark.Mark.{Mark}
use Rattle.history_check.proofs.reading.are_in_table.Given as goal

abbrev pub invariant-loop-mark : goal.invariant-loop-mark
invariant-loop-mark l = AllByRecursion (λ (m : Mark). m.entry < l.size) (take l.mark-index l.marks)
