-- The laws of an entry that hardware walks: what holds over every list of steps of any callers and
-- any places.
use Rattle.std.specs.Prelude.{◌≡◌, ◌⊎◌, ◌≤◌, ℕ, Bool, true, false, List, ◌++◌, Some, slice_get}
use Rattle.entry_model.specs.State.{State, IsCanonicalState}
use Rattle.entry_model.specs.History.{IsLegal, pair_of}
use Rattle.entry_model.specs.Reply.{reply_of}
use Rattle.entry_model.specs.Receipt.{is_at}
use Rattle.entry_model.specs.declared.operation.Op.{Op}
use Rattle.entry_model.specs.declared.receipt.Receipt.{Receipt}
use Rattle.hardware_walk.specs.Words.{Pair, seen_state, allows}
use Rattle.hardware_walk.specs.Machine.{Place, Translated, HardwareAccess, Machine, opening_machine}
use Rattle.hardware_walk.specs.Steps.{Orders, protocol, Move, run}

-- The machine of this entry after these moves, by the whole protocol.
abbrev pub machine_after : ℕ → State → ℕ → ℕ → List Move → Machine
machine_after e s callers places moves = run protocol (opening_machine e s callers places) moves

-- All receipts, of calls and of hardware's accesses, are one legal history, in the order in which
-- they were made. It leads to the state that the entry counts with.
abbrev pub HistoryIsLegal : Orders → Type 0
HistoryIsLegal orders =
    (e : ℕ) (s : State) (callers places : ℕ) (moves : List Move)
    → IsCanonicalState s
    → (let m : Machine = run orders (opening_machine e s callers places) moves in
    IsLegal s m.log m.entry.published)

-- While nobody holds the entry, the words stand for that state.
abbrev pub WordsAreTheState : Orders → Type 0
WordsAreTheState orders =
    (e : ℕ) (s : State) (callers places : ℕ) (moves : List Move)
    → IsCanonicalState s
    → (let m : Machine = run orders (opening_machine e s callers places) moves in
    m.entry.locked ≡ false → m.entry.published ≡ seen_state m.entry)

-- The entry is valid, and this is its translation.
pub record IsTranslation (p : Pair) (s : State) : Type 0 where
  pub valid : s.valid ≡ true
  pub dword0 : p.dword0 ≡ s.dword0
  pub dword1 : p.dword1 ≡ s.dword1

-- A translation that hardware has is the one that the entry has in its history at that moment, and
-- what it allows the entry allows: whatever walks and calls do meanwhile.
abbrev pub TranslationsAreCurrent : Orders → Type 0
TranslationsAreCurrent orders =
    (e : ℕ) (s : State) (callers places : ℕ) (moves : List Move)
    → IsCanonicalState s
    → (let m : Machine = run orders (opening_machine e s callers places) moves in
    (k : ℕ) (old : Bool) (p : Pair) (owed : List Op)
    → slice_get m.places k ≡ Some (Translated old p owed)
    → IsTranslation p m.entry.published
    × ((op : Op) → allows p op ≡ true → is_at (reply_of m.entry.published op).0 ≡ true))

-- A place owes the access: its bits aren't recorded yet.
abbrev pub Owes : Op → Place → Type 0
Owes op (Translated old p owed) = (n : ℕ) × (slice_get owed n ≡ Some op)
Owes op other = ⊥

-- The receipt of an access that was used.
pub record IsReceiptOfUse (u : HardwareAccess) (r : Receipt) : Type 0 where
  pub op : r.op ≡ u.op
  pub at : is_at r.answer ≡ true
  pub stamp : r.before.stamp ≡ u.stamp

-- A place is still to record it, and the stamp is the one at which it was made; or it is in the
-- log.
abbrev pub IsListed : List Place → List Receipt → ℕ → HardwareAccess → Type 0
IsListed places log stamp u =
    ((k : ℕ) × (w : Place) × (slice_get places k ≡ Some w) × Owes u.op w × (stamp ≡ u.stamp))
    ⊎ ((j : ℕ) × (r : Receipt) × (slice_get log j ≡ Some r) × IsReceiptOfUse u r)

-- Each access that hardware made is in the history as an allowed access of the entry, at the
-- stamp that the entry had when it was made; or a place is still to record it, and the entry has
-- that stamp still: no call has changed it since.
abbrev pub UsesAreListed : Orders → Type 0
UsesAreListed orders =
    (e : ℕ) (s : State) (callers places : ℕ) (moves : List Move)
    → IsCanonicalState s
    → (let m : Machine = run orders (opening_machine e s callers places) moves in
    (n : ℕ) (u : HardwareAccess)
    → slice_get m.used n ≡ Some u
    → IsListed m.places m.log m.entry.published.stamp u)

-- Receipts that are made after a moment aren't before what the entry was at that moment: so none is
-- before what its maker, or anybody, had seen.
abbrev pub ReceiptsComeLater : Orders → Type 0
ReceiptsComeLater orders =
    (e : ℕ) (s : State) (callers places : ℕ) (newer older : List Move)
    → IsCanonicalState s
    → (let m : Machine = run orders (opening_machine e s callers places) older in
    let n : Machine = run orders (opening_machine e s callers places) (newer ++ older) in
    (made : List Receipt)
    × (n.log ≡ m.log ++ made)
    × ((j : ℕ) (r : Receipt)
    → slice_get made j ≡ Some r
    → pair_of m.entry.published ≤ pair_of r.before))
