use Rattle.std.proofs.Common.{◌≡◌, ◌+◌, ◌++◌, drop, length}
use Rattle.history_check.specs.MarkSteps.{mark_steps}
use Rattle.history_check.proofs.mark_steps.put_steps.Given as goal

-- The steps so far, and those of the marks that are left.
abbrev pub invariant-loop-mark : goal.invariant-loop-mark
invariant-loop-mark l = record {
  told :
      l.steps.items ++ mark_steps l.line (length l.steps.items) l.act (drop l.mark-index l.marks)
      ≡ l.fn.steps.items ++ mark_steps l.line (length l.fn.steps.items) l.act l.marks;
  size : length l.steps.items ≡ length l.fn.steps.items + l.mark-index;
}
