use Rattle.std.proofs.Common.{◌≡◌, length}
use Rattle.lock_machine_tests.proofs.tests.four_actors.take_turns.Given as goal

abbrev pub invariant-loop-turn : goal.invariant-loop-turn
invariant-loop-turn g l =
    (length l.core.entries ≡ length l.initial.core.entries)
    × (length l.core.actors ≡ length l.initial.core.actors)
