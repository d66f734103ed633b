use Rattle.hpt_resize.specs.Resize.{IsHeld}
use Rattle.hpt_resize_tests.proofs.tests.made_ready.Given as goal

abbrev pub invariant-loop-waits : goal.invariant-loop-waits
invariant-loop-waits l = IsHeld l.resize l.pool
