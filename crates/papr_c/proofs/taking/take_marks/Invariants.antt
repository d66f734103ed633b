use Rattle.std.proofs.Common.{ℕ, List, length}
use Rattle.papr_c.proofs.TakenMarks.{IsTaking}
use Rattle.papr_c.proofs.taking.take_marks.Given as goal

-- The marks of the entries before this one were taken.
abbrev pub invariant-loop-index : goal.invariant-loop-index
invariant-loop-index l =
    (told : List ℕ)
    × IsTaking l.first l.index (length l.fn.indexes) l.fn.entries l.entries l.fn.indexes l.indexes
    l.count told
