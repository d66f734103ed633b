use Rattle.hpt_resize.specs.Resize.{IsHeld}
use Rattle.hpt_resize_tests.proofs.tests.larger_tables_are_made_ready_a_part_at_a_call.Given as goal

abbrev pub invariant-loop-order : goal.invariant-loop-order
invariant-loop-order g l = IsHeld l.resize l.pool
