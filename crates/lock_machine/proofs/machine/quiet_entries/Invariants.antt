use Rattle.std.proofs.Common.{◌≡◌, map, take}
use Rattle.lock_core.specs.Words.{unheld_entry}
use Rattle.lock_machine.proofs.machine.quiet_entries.Given as goal

abbrev pub invariant-loop-state : goal.invariant-loop-state
invariant-loop-state l = l.entries.items ≡ map unheld_entry (take l.state-index l.states)
