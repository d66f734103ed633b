-- One call of a trial on entries that a caller lends, and the words of these entries.
use Rattle.std.specs.Prelude.{◌≡◌, ℕ, ◌+◌, Bool, true, false, List, [], ◌∷◌, flat_map, set, Option, Some, None}
use Rattle.std.specs.List.{range_with_len}
use Rattle.entry_model.specs.State.{State}
use Rattle.entry_model.specs.Reply.{words_of}
use Rattle.entry_model.specs.Run.{state_at, states_after}
use Rattle.entry_model.specs.Trial.{Call, call, receipt_at}
use Rattle.entry_model.specs.declared.operation.Answer.{Answer}
use Rattle.entry_model.specs.declared.operation.Op.{Op}
use Rattle.entry_model.specs.declared.receipt.Receipt.{Receipt}
use Rattle.entry_model.specs.Calls.{call_at}
use Rattle.c_layout.specs.declared.receipts.PaprReceipt.{PaprReceipt}
use Rattle.papr_c.specs.declared.trying.Tried.{Tried}
use Rattle.c_layout.specs.Slots.{shown_receipt}

-- Both doublewords of each of so many entries, from the first on.
abbrev pub words_of_entries : List State → ℕ → ℕ → List ℕ
words_of_entries entries first count =
    flat_map
    (λ e. (words_of (state_at entries e)).0 ∷ (words_of (state_at entries e)).1 ∷ [])
    (range_with_len first count)

-- The entries and the slots for receipts, before and after something was made.
pub record LentPair : Type 0 where
  pub before : List State
  pub after : List State
  pub slots_before : List PaprReceipt
  pub slots_after : List PaprReceipt

-- The call after the first ones was made, with this receipt, and the trial goes on or it doesn't.
pub record IsMadeAt (goes : Answer → Bool) (cs : List Call) (i : ℕ) (m : LentPair) (r : Receipt)
    (on : Bool)
    : Type 0 where
  pub entry : ℕ
  pub op : Op
  pub at : call_at cs i ≡ Some (entry, op)
  pub receipt : r ≡ receipt_at m.before (call op entry)
  pub after : m.after ≡ states_after m.before r
  pub put : m.slots_after ≡ set m.slots_before i (shown_receipt r)
  pub goes_on : goes r.answer ≡ on

-- The trial ended there: there is no further call, or its answer ends it.
abbrev pub IsTriedLast : (Answer → Bool) → List Call → ℕ → LentPair → Option Receipt → ℕ → Type 0
IsTriedLast goes cs i m None count =
    (call_at cs i ≡ None)
    × ((m.after ≡ m.before) × ((m.slots_after ≡ m.slots_before) × (count ≡ i)))
IsTriedLast goes cs i m (Some r) count = IsMadeAt goes cs i m r false × (count ≡ i + 1)

-- One call more, or the end.
abbrev pub IsTriedNext : (Answer → Bool) → List Call → ℕ → LentPair → Option Tried → Type 0
IsTriedNext goes cs i m None = (r : Receipt) × IsMadeAt goes cs i m r true
IsTriedNext goes cs i m (Some t) = IsTriedLast goes cs i m t.ending t.count
