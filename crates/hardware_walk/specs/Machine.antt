-- The machine of one entry that hardware walks: the phases of callers, and the places in which
-- processors keep its translation.
use Rattle.std.specs.Prelude.{ℕ, Bool, true, false, List, [], replicate}
use Rattle.entry_model.specs.State.{State}
use Rattle.entry_model.specs.declared.operation.Op.{Op}
use Rattle.entry_model.specs.declared.receipt.Receipt.{Receipt}
use Rattle.hardware_walk.specs.Words.{Entry, Pair, unheld_entry}

-- How far a caller's hypervisor call is: its operation, and the state as the caller read it.
pub data Phase : Type 0 where
  Idle : Phase
  -- it has the lock bit of doubleword 0 (`HPTE_V_HVLOCK` of Linux)
  Held : Op → Phase
  -- it has answered, and leaves the entry as it is
  Leaving : Phase
  -- it is to change the entry
  Ready : Op → State → Phase
  -- it has cleared V
  Invalidated : Op → State → Phase
  -- its tlbie has begun
  Flushing : Op → State → Phase
  -- its tlbie has completed
  Flushed : Op → State → Phase
  -- nothing changes R and C any more: whether it has stored doubleword 1, and whether the stamp
  Known : Op → State → Bool → Bool → Phase

-- The caller makes no call.
abbrev pub is_idle : Phase → Bool
is_idle Idle = true
is_idle other = false

-- A place of a processor: nothing of this entry; doubleword 0 alone, after the first half of a
-- walk; or a translation, with the accesses by it that aren't recorded yet. `old` says that a tlbie
-- has begun since.
pub data Place : Type 0 where
  Empty : Place
  HalfWalked : (old : Bool) → ℕ → Place
  Translated : (old : Bool) → Pair → List Op → Place

-- The place has read something of the entry.
abbrev pub is_on : Place → Bool
is_on Empty = false
is_on other = true

-- A tlbie has begun since the place read doubleword 0.
abbrev pub is_old : Place → Bool
is_old Empty = false
is_old (HalfWalked old word) = old
is_old (Translated old p owed) = old

-- The place after the begin of a tlbie.
abbrev pub made_old : Place → Place
made_old Empty = Empty
made_old (HalfWalked old word) = HalfWalked true word
made_old (Translated old p owed) = Translated true p owed

-- An access that hardware made, with the stamp that the entry had.
pub record HardwareAccess : Type 0 where
  pub stamp : ℕ
  pub op : Op

-- The entry, its callers, its places, and what was made so far.
pub record Machine : Type 0 where
  pub entry : Entry
  pub callers : List Phase
  pub places : List Place
  -- all receipts in the order of their making
  pub log : List Receipt
  -- all accesses of hardware in theirs
  pub used : List HardwareAccess

-- The machine of an entry in a state, before any step of these callers and places.
abbrev pub opening_machine : ℕ → State → ℕ → ℕ → Machine
opening_machine e s callers places = record {
  entry = unheld_entry e s;
  callers = replicate callers Idle;
  places = replicate places Empty;
  log = [];
  used = [];
}
