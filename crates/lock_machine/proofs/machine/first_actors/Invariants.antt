use Rattle.std.proofs.Common.{◌≡◌, replicate}
use Rattle.lock_core.specs.Machine.{nobody}
use Rattle.lock_machine.proofs.machine.first_actors.Given as goal

abbrev pub invariant-loop-i : goal.invariant-loop-i
invariant-loop-i l = l.actors.items ≡ replicate l._i nobody
