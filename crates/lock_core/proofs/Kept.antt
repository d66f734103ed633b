-- What every step keeps.
use Rattle.std.specs.Prelude.{◌≡◌, ℕ, ◌≤◌, ◌<◌, ◌^◌, ◌==◌, length, true, false, List, [], ◌∷◌, ◌++◌, filter, Option, Some, None, slice_get}
use Rattle.power_addr.specs.Pages.{virtual_page}
use Rattle.entry_model.specs.State.{State, Follows}
use Rattle.entry_model.specs.declared.line.Line.{Line}
use Rattle.entry_model.specs.declared.receipt.Receipt.{Receipt}
use Rattle.entry_model.specs.Receipt.{is_access}
use Rattle.entry_model.specs.CachedLines.{Holds}
use Rattle.entry_model.specs.History.{IsLegal, Regrouped}
use Rattle.lock_core.specs.declared.control.Control.{Control}
use Rattle.lock_core.specs.declared.doing.Doing.{Doing}
use Rattle.lock_core.specs.declared.entry.Entry.{Entry}
use Rattle.lock_core.specs.declared.phase.Phase.{Phase}
use Rattle.lock_core.specs.declared.phase.Phase.TheVariants.{Idle, Held, HeldShut, Looked}
use Rattle.lock_core.specs.declared.sighting.Sighting.{Sighting}
use Rattle.lock_core.specs.Words.{without_bits, state_of, noted_state, changes}
use Rattle.lock_core.specs.Machine.{Actor, Machine, nobody, HoldsEntry}
use Rattle.lock_core.specs.Runs.{receipts_of}

-- ---- phases
pub held_same : (d d' : Doing) → Held d ≡ Held d' → d ≡ d'
held_same d d' h = cc

pub shut_same : (d d' : Doing) → HeldShut d ≡ HeldShut d' → d ≡ d'
shut_same d d' h = cc

pub looked_same : (d d' : Doing) → Looked d ≡ Looked d' → d ≡ d'
looked_same d d' h = cc

-- The actor is at an operation on the entry.
abbrev pub IsOn : ℕ → Phase → Type 0
IsOn e Idle = ⊥
IsOn e (Held d) = d.entry ≡ e
IsOn e (HeldShut d) = d.entry ≡ e
IsOn e (Looked d) = d.entry ≡ e

-- ---- entries and the actors that are on them
-- An entry that isn't shut counts with the state of its words, one that is shut is locked, and the
-- stamp fits in 32 bits.
pub record EntryOk (x : Entry) : Type 0 where
  pub free : x.control.shut ≡ false → x.published ≡ state_of x.control x.dword0 x.dword1
  pub shut : x.control.shut ≡ true → x.control.locked ≡ true
  pub low : x.control.stamp < 2 ^ 32

-- What a holder noted is the word except for the bits, and what it loaded is there.
pub record HeldOk (d : Doing) (x : Entry) : Type 0 where
  pub locked : x.control.locked ≡ true
  pub free : x.control.shut ≡ false
  pub valid : d.noted.valid ≡ x.control.valid
  pub stamp : d.noted.stamp ≡ x.control.stamp
  pub first : (n : ℕ) → d.first ≡ Some n → x.dword0 ≡ n
  pub second : (n : ℕ) → d.second ≡ Some n → x.dword1 ≡ n
  pub seen : d.seen ≡ None
  pub op : is_access d.op ≡ false

-- What one that shut the entry knows of it is the state that the entry counts with.
pub record ShutOk (d : Doing) (x : Entry) : Type 0 where
  pub locked : x.control.locked ≡ true
  pub shut : x.control.shut ≡ true
  pub stamp : d.noted.stamp ≡ x.control.stamp
  pub published : x.published ≡ noted_state d
  pub changes : changes d ≡ true
  pub op : is_access d.op ≡ false

-- The entry is still at the noted stamp, and isn't shut.
pub record IsFresh (d : Doing) (x : Entry) : Type 0 where
  pub stamp : d.noted.stamp ≡ x.control.stamp
  pub free : x.control.shut ≡ false

-- The word is the one that was noted, with further bits.
pub record HasMoreBits (k l : Control) : Type 0 where
  pub valid : k.valid ≡ l.valid
  pub referenced : k.referenced ≡ true → l.referenced ≡ true
  pub changed : k.changed ≡ true → l.changed ≡ true

-- What one that looked loaded or has seen is there as long as the entry is still at the noted
-- stamp.
pub record LookedOk (d : Doing) (x : Entry) : Type 0 where
  pub older : d.noted.stamp ≤ x.control.stamp
  pub op : is_access d.op ≡ true
  pub free : d.noted.shut ≡ false
  pub first : IsFresh d x → (n : ℕ) → d.first ≡ Some n → x.dword0 ≡ n
  pub second : IsFresh d x → (n : ℕ) → d.second ≡ Some n → x.dword1 ≡ n
  pub seen :
      IsFresh d x
      → (w : ℕ × ℕ)
      → d.seen ≡ Some w
      → (x.dword0 ≡ w.0) × (without_bits x.dword1 ≡ without_bits w.1)
  pub bits : IsFresh d x → HasMoreBits d.noted x.control

-- The entry agrees with what an actor that is on it in this phase noted and knows; an idle one is
-- on none.
abbrev pub PhaseOk : Phase → Entry → Type 0
PhaseOk Idle x = Unit {0}
PhaseOk (Held d) x = HeldOk d x
PhaseOk (HeldShut d) x = ShutOk d x
PhaseOk (Looked d) x = LookedOk d x

-- ---- lines and receipts
-- The line of a sighting, on whatever page.
abbrev pub as_line : Sighting → Line
as_line l =
    record {
      page = virtual_page false 0 0 0;
      entry = l.entry;
      stamp = l.stamp;
      dword0 = l.dword0;
      dword1 = l.dword1;
    }

-- The receipts of one entry.
abbrev pub on_entry : ℕ → List Receipt → List Receipt
on_entry e rs = filter (λ r. r.entry == e) rs

-- The log with the receipt that was made.
abbrev pub logged : List Receipt → Option Receipt → List Receipt
logged log None = log
logged log (Some r) = log ++ r ∷ []

-- ---- the whole, by a log of all receipts in the order of their making
module _ (opening : List State) where
  -- Each locked entry has a holder and none has two, what actors know of entries is true, and each
  -- entry's receipts in the log are a legal history from its opening state.
  pub record Kept (m : Machine) (log : List Receipt) : Type 0 where
    pub opens : m.opening ≡ opening
    pub size : length m.entries ≡ length opening
    pub quiet : (i : ℕ) (a : Actor) → slice_get m.actors i ≡ Some a → a.live ≡ false → a ≡ nobody
    pub entries : (e : ℕ) (x : Entry) → slice_get m.entries e ≡ Some x → EntryOk x
    pub actors :
        (i e : ℕ) (a : Actor) (x : Entry)
        → slice_get m.actors i ≡ Some a
        → IsOn e a.phase
        → slice_get m.entries e ≡ Some x
        → PhaseOk a.phase x
    pub held :
        (e : ℕ) (x : Entry)
        → slice_get m.entries e ≡ Some x
        → x.control.locked ≡ true
        → (i : ℕ) × (a : Actor) × (slice_get m.actors i ≡ Some a) × HoldsEntry e a.phase
    pub one :
        (e i j : ℕ) (a b : Actor)
        → slice_get m.actors i ≡ Some a
        → slice_get m.actors j ≡ Some b
        → HoldsEntry e a.phase
        → HoldsEntry e b.phase
        → i ≡ j
    pub lines :
        (i k : ℕ) (a : Actor) (l : Sighting) (x : Entry)
        → slice_get m.actors i ≡ Some a
        → slice_get a.lines k ≡ Some l
        → slice_get m.entries l.entry ≡ Some x
        → Holds (as_line l) x.published
    pub since :
        (e : ℕ) (s : State) (x : Entry)
        → slice_get opening e ≡ Some s
        → slice_get m.entries e ≡ Some x
        → Follows s x.published
    pub chain :
        (e : ℕ) (s : State) (x : Entry)
        → slice_get opening e ≡ Some s
        → slice_get m.entries e ≡ Some x
        → IsLegal s (on_entry e log) x.published
    pub listed : Regrouped log (receipts_of m.actors)
