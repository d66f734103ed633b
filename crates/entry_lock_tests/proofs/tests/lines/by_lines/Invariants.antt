use Rattle.entry_lock.specs.PassOfTable.{IsOf}
use Rattle.entry_lock_tests.proofs.tests.lines.by_lines.Given as goal

abbrev pub invariant-loop-op : goal.invariant-loop-op
invariant-loop-op g l = IsOf l.table l.other
