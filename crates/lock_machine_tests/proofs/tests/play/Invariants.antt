use Rattle.std.proofs.Common.{◌≡◌, length}
use Rattle.lock_machine_tests.proofs.tests.play.Given as goal

abbrev pub invariant-loop-actor : goal.invariant-loop-actor
invariant-loop-actor g l =
    (length l.core.entries ≡ length l.initial.core.entries)
    × (length l.core.actors ≡ length l.initial.core.actors)
