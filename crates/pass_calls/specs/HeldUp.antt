-- When a hypervisor call is held up: the entry of its next operation is busy with somebody else.
use Rattle.std.specs.Prelude.{◌≡◌, ℕ, List, length, Some, MatchBool}
use Rattle.entry_model.specs.declared.operation.Op.{Op}
use Rattle.entry_model.specs.declared.receipt.Receipt.{Receipt}
use Rattle.entry_model.specs.Receipt.{is_access}
use Rattle.entry_model.specs.Trial.{Call, Plan}
use Rattle.entry_lock.specs.declared.busy.Busy.{Busy}
use Rattle.entry_lock.specs.BusyCauses.{IsHeldElsewhere, IsChanging}
use Rattle.entry_model.specs.Calls.{call_at}

-- The answer that this operation on the entry is busy: for an access somebody else changes the
-- entry's control word, for any other operation somebody else holds its lock.
pub record IsBusyAt (entry : ℕ) (op : Op) (b : Busy) : Type 0 where
  pub of : b.entry ≡ entry
  pub cause : MatchBool (is_access op) (IsChanging b) (IsHeldElsewhere b)

-- There is a call after those of the receipts, and it is busy.
abbrev pub IsHeldUpAt : List Call → List Receipt → Busy → Type 0
IsHeldUpAt cs rs b =
    (op : Op) × ((call_at cs (length rs) ≡ Some (b.entry, op)) × IsBusyAt b.entry op b)

-- The hypervisor call is held up at its next call on an entry.
abbrev pub IsHeldUp : Plan → List Receipt → Busy → Type 0
IsHeldUp plan rs b = IsHeldUpAt plan.calls rs b
