use Rattle.std.proofs.Common.{◌≡◌, length}
use Rattle.lock_machine_tests.proofs.tests.four_actors.play.Given as goal

abbrev pub invariant-loop-role : goal.invariant-loop-role
invariant-loop-role g l =
    (length l.core.entries ≡ length l.initial.core.entries)
    × (length l.core.actors ≡ length l.initial.core.actors)
