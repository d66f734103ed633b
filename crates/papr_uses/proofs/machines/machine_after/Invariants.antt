use Rattle.std.proofs.Common.{◌≡◌, length, reverse, take}
use Rattle.lock_core.specs.Machine.{opening_machine}
use Rattle.lock_core.specs.Runs.{run}
use Rattle.papr_uses.proofs.machines.machine_after.Given as goal

-- the machine after the steps so far
abbrev pub invariant-loop-actor : goal.invariant-loop-actor
invariant-loop-actor l = record {
  after : l.core ≡ run (opening_machine l.states l.actors) (reverse (take l.actor-index l.steps));
  entries : length l.core.entries ≡ length l.states;
  actors : length l.core.actors ≡ l.actors;
}
