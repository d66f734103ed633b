-- The fronts that a processor's lines leave, entry by entry.
use Rattle.std.specs.Prelude.{◌≡◌, ℕ, zero, suc, ◌==◌, false, if◌then◌else◌, List, [], ◌∷◌, ◌++◌, nat_eq, nat_lt, length, slice_index}
use Rattle.std.specs.HashMap.{get, HashMap}
use Rattle.std.specs.Option.{unwrap_or}
use Rattle.entry_model.specs.Fronts.{front_at}
use Rattle.run_model.specs.Histories.{Event, InOrder}
use Rattle.history_check.specs.declared.fronts.Fronts.{Fronts}

-- ---- fronts in a map
module _ {S : Type 0} where
  -- The front of an entry: the one that was kept, or else that of the state on which it opened.
  abbrev pub kept_front : HashMap ℕ ℕ S → List ℕ → ℕ → ℕ
  kept_front kept opening e = unwrap_or (get nat_eq kept e) (front_at opening e)

  -- The one entry has this front, and the others keep theirs.
  pub record SetsKept (old new : HashMap ℕ ℕ S) (entry front : ℕ) : Type 0 where
    pub each :
        (opening : List ℕ) (e : ℕ)
        → kept_front new opening e ≡ (if entry == e then front else kept_front old opening e)

-- ---- fronts of a processor
-- The front of an entry: from the list, if that goes so far.
abbrev pub front_of : Fronts → List ℕ → ℕ → ℕ
front_of fronts opening e =
    if nat_lt e (length fronts.list.items)
    then slice_index fronts.list.items e
    else kept_front fronts.kept opening e

-- The fronts of each processor, by its number.
abbrev pub fronts_of : List Fronts → List ℕ → ℕ → ℕ → ℕ
fronts_of [] opening cpu e = front_at opening e
fronts_of (fronts ∷ others) opening zero e = front_of fronts opening e
fronts_of (fronts ∷ others) opening (suc cpu) e = fronts_of others opening cpu e

-- The one entry has this front, and the others keep theirs.
pub record SetsFront (old new : Fronts) (entry front : ℕ) : Type 0 where
  pub each :
      (opening : List ℕ) (e : ℕ)
      → front_of new opening e ≡ (if entry == e then front else front_of old opening e)

-- ---- events

-- Events lead from fronts to fronts: what comes after them is in order from the second where, with
-- the events before it, it is from the first.
pub record LeadsTo (first : ℕ → ℕ) (events : List Event) (second : ℕ → ℕ) : Type 0 where
  pub with_events :
      (e : ℕ) (later : List Event)
      → InOrder e (second e) later
      → InOrder e (first e) (events ++ later)
  pub without :
      (e : ℕ) (later : List Event)
      → InOrder e (first e) (events ++ later)
      → InOrder e (second e) later

-- From these fronts the events are not in order on each entry, whatever comes after them.
abbrev pub LeadsNowhere : (ℕ → ℕ) → List Event → Type 0
LeadsNowhere first events =
    (later : List Event) → ((e : ℕ) → InOrder e (first e) (events ++ later)) → ⊥

-- Events of one processor lead from the fronts of all to those of all.
pub record AllLeadTo (first : ℕ → ℕ → ℕ) (cpu : ℕ) (events : List Event) (second : ℕ → ℕ → ℕ)
    : Type 0
  where
    pub own : LeadsTo (first cpu) events (second cpu)
    pub others : (c : ℕ) → (cpu == c) ≡ false → (e : ℕ) → second c e ≡ first c e
