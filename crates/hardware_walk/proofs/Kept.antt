-- What every move keeps.
use Rattle.std.specs.Prelude.{◌≡◌, ℕ, Bool, true, false, List, Some, slice_get}
use Rattle.entry_model.specs.State.{State, IsCanonicalState, OnlyRaisesBits}
use Rattle.entry_model.specs.History.{IsLegal}
use Rattle.entry_model.specs.Reply.{reply_of}
use Rattle.entry_model.specs.Receipt.{is_access, is_at}
use Rattle.entry_model.specs.declared.operation.Op.{Op}
use Rattle.entry_model.specs.declared.receipt.Receipt.{Receipt}
use Rattle.hardware_walk.specs.Words.{Entry, Pair, allows}
use Rattle.hardware_walk.specs.Machine.{Phase, Idle, Held, Leaving, Ready, Invalidated, Flushing, Flushed, Known, is_idle, Place, Empty, HalfWalked, Translated, is_on, is_old, HardwareAccess, Machine}
use Rattle.hardware_walk.specs.Steps.{next_of}
use Rattle.hardware_walk.specs.Laws.{IsTranslation, IsListed}

-- Doubleword 1 in memory is that of the state, with its bits.
pub record Memory (x : Entry) : Type 0 where
  pub dword1 : x.dword1 ≡ x.published.dword1
  pub referenced : x.referenced ≡ x.published.referenced
  pub changed : x.changed ≡ x.published.changed

-- The words are those of the state.
pub record Same (x : Entry) : Type 0 where
  pub valid : x.valid ≡ x.published.valid
  pub dword0 : x.published.valid ≡ true → x.dword0 ≡ x.published.dword0
  pub memory : x.published.valid ≡ true → Memory x
  pub stamp : x.stamp ≡ x.published.stamp

-- V is clear in memory, and the entry counts with the state from before, of which it still has
-- doubleword 1.
pub record Inside (s : State) (x : Entry) : Type 0 where
  pub shut : x.valid ≡ false
  pub valid : x.published.valid ≡ true
  pub memory : Memory x
  pub read : OnlyRaisesBits s x.published

-- No place has anything of the entry.
abbrev pub NoneOn : List Place → Type 0
NoneOn ws = (k : ℕ) (w : Place) → slice_get ws k ≡ Some w → is_on w ≡ false

-- What places have is from before the tlbie.
abbrev pub AllOld : List Place → Type 0
AllOld ws = (k : ℕ) (w : Place) → slice_get ws k ≡ Some w → is_on w ≡ true → is_old w ≡ true

-- Doubleword 1 in memory is that of the state after.
pub record IsWord (s : State) (x : Entry) : Type 0 where
  pub dword1 : x.dword1 ≡ s.dword1
  pub referenced : x.referenced ≡ s.referenced
  pub changed : x.changed ≡ s.changed

-- The caller knows the state, and nobody but it changes the words.
pub record KnownOk (op : Op) (s : State) (stored stamped : Bool) (x : Entry) (ws : List Place)
    : Type 0 where
  pub shut : x.valid ≡ false
  pub before : s ≡ x.published
  pub none : NoneOn ws
  pub word : stored ≡ true → IsWord (next_of op s) x
  pub stamp : stamped ≡ true → x.stamp ≡ (next_of op s).stamp

-- What holds where a caller is in this phase.
abbrev pub PhaseOk : Phase → Entry → List Place → Type 0
PhaseOk Idle x ws = Unit {0}
PhaseOk (Held op) x ws = Same x
PhaseOk Leaving x ws = Same x
PhaseOk (Ready op s) x ws =
    Same x
    × OnlyRaisesBits s x.published
    × (s.valid ≡ true)
    × (is_access op ≡ true → is_at (reply_of s op).0 ≡ true)
PhaseOk (Invalidated op s) x ws = Inside s x
PhaseOk (Flushing op s) x ws = Inside s x × AllOld ws
PhaseOk (Flushed op s) x ws = Inside s x × NoneOn ws
PhaseOk (Known op s stored stamped) x ws = KnownOk op s stored stamped x ws

-- What a walk that has read doubleword 0 has read.
pub record HalfOk (word : ℕ) (x : Entry) : Type 0 where
  pub valid : x.published.valid ≡ true
  pub dword0 : word ≡ x.published.dword0
  pub memory : Memory x

-- A translation is the entry's, and what is to be recorded is what it allows.
pub record FullOk (p : Pair) (owed : List Op) (x : Entry) : Type 0 where
  pub translation : IsTranslation p x.published
  pub memory : Memory x
  pub referenced : p.referenced ≡ true → x.published.referenced ≡ true
  pub changed : p.changed ≡ true → x.published.changed ≡ true
  pub allowed : (n : ℕ) (op : Op) → slice_get owed n ≡ Some op → allows p op ≡ true

-- What holds of a place, by what it keeps of the entry.
abbrev pub PlaceOk : Place → Entry → Type 0
PlaceOk Empty x = Unit {0}
PlaceOk (HalfWalked old word) x = HalfOk word x
PlaceOk (Translated old p owed) x = FullOk p owed x

module _ (number : ℕ) (opening : State) where
  pub record Kept (m : Machine) : Type 0 where
    pub index : m.entry.index ≡ number
    pub listed : (n : ℕ) (r : Receipt) → slice_get m.log n ≡ Some r → r.entry ≡ number
    pub canonical : IsCanonicalState m.entry.published
    pub chain : IsLegal opening m.log m.entry.published
    -- whenever V is set, and whenever nobody holds the entry
    pub open' : m.entry.valid ≡ true → Same m.entry
    pub free : m.entry.locked ≡ false → Same m.entry
    pub idle :
        m.entry.locked ≡ false
        → (i : ℕ) (p : Phase)
        → slice_get m.callers i ≡ Some p
        → is_idle p ≡ true
    pub one :
        (i j : ℕ) (p q : Phase)
        → slice_get m.callers i ≡ Some p
        → slice_get m.callers j ≡ Some q
        → is_idle p ≡ false
        → is_idle q ≡ false
        → i ≡ j
    pub phases :
        (i : ℕ) (p : Phase) → slice_get m.callers i ≡ Some p → PhaseOk p m.entry m.places
    pub hard : (k : ℕ) (w : Place) → slice_get m.places k ≡ Some w → PlaceOk w m.entry
    pub uses :
        (n : ℕ) (u : HardwareAccess)
        → slice_get m.used n ≡ Some u
        → IsListed m.places m.log m.entry.published.stamp u
