use Rattle.std.proofs.Common.{◌≡◌, take}
use Rattle.hpt_resize.specs.TableMemory.{empty_states, with_entries}
use Rattle.partition.proofs.states.opening_states.Given as goal

-- The entries so far are in their places.
abbrev pub invariant-loop-entry : goal.invariant-loop-entry
invariant-loop-entry l =
    l.states.items ≡ with_entries (empty_states l.config.order) (take l.entry-index l.entries)
