use Rattle.std.specs.Prelude.{vec_len, vec_capacity}
use Rattle.std.proofs.Common.{◌≡◌}
use Rattle.std.specs.Mem.Slots.{slots_items}
use Rattle.entry_lock.specs.Layout.{entry_states}
use Rattle.entry_lock.proofs.table.LockTable.close.Given as goal

abbrev pub invariant-loop-entry : goal.invariant-loop-entry
invariant-loop-entry l =
    record {
      states : l.closing.items ≡ entry_states (slots_items l.closed.words) l.entry;
      len : vec_len l.closing ≡ l.entry;
      room : vec_capacity l.closing ≡ vec_capacity l.initial.closing;
    }
