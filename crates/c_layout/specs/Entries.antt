-- Entries as C has them: a state, and a mark that shows whether it has changed. The mark is about
-- changes since it was last taken.
use Rattle.std.specs.Prelude.{◌≡◌, ◌||◌, not, Bool, true, false, List, [], ◌∷◌, length, map}
use Rattle.entry_model.specs.State.{State, Follows}
use Rattle.entry_model.specs.History.{state_eq}

-- One entry.
pub record Entry : Type 0 where
  pub state : State
  pub marked : Bool

-- What entries hold.
abbrev pub states_of : List Entry → List State
states_of entries = map (λ (e : Entry). e.state) entries

-- ---- another state
-- The entry that holds this state then: marked if it was, or if it held another state.
abbrev pub entry_with : Entry → State → Entry
entry_with e state = record {
  state = state;
  marked = e.marked || not (state_eq e.state state);
}

-- The entries, each holding the state at its index in the list of states, if there is one: then an
-- entry is marked if it was, or if it held another state.
abbrev pub entries_with : List Entry → List State → List Entry
entries_with [] states = []
entries_with (e ∷ es) [] = e ∷ es
entries_with (e ∷ es) (s ∷ ss) = entry_with e s ∷ entries_with es ss

-- The second entries are the first ones with the states that they hold: an entry is marked exactly
-- if it was, or if its state is another one.
abbrev pub AreMarked : List Entry → List Entry → Type 0
AreMarked old new = new ≡ entries_with old (states_of new)

-- ---- one change after the other
-- The second entry is the first with a later state, and so marked.
pub record IsPassed (old new : Entry) : Type 0 where
  pub marked : new ≡ entry_with old new.state
  pub later : Follows old.state new.state

-- Of two lists of entries, each entry of the second is the one of the first with a later state, and
-- marked.
abbrev pub ArePassed : List Entry → List Entry → Type 0
ArePassed [] [] = Unit {0}
ArePassed [] (n ∷ ns) = ⊥
ArePassed (o ∷ os) [] = ⊥
ArePassed (o ∷ os) (n ∷ ns) = IsPassed o n × ArePassed os ns

-- ---- laws
-- Entries hold the states that they were given, one for each.
abbrev pub HoldWhatTheyAreGiven : Type 0
HoldWhatTheyAreGiven =
    (entries : List Entry) (states : List State)
    → length states ≡ length entries
    → states_of (entries_with entries states) ≡ states

-- An entry whose state is another one is marked.
abbrev pub ChangesAreMarked : Type 0
ChangesAreMarked =
    (e : Entry) (state : State) → (e.state ≡ state → ⊥) → (entry_with e state).marked ≡ true

-- A mark never falls.
abbrev pub MarksStay : Type 0
MarksStay = (e : Entry) (state : State) → e.marked ≡ true → (entry_with e state).marked ≡ true

-- An entry that isn't marked has the state that it had.
abbrev pub UnmarkedAreUnchanged : Type 0
UnmarkedAreUnchanged =
    (e : Entry) (state : State) → (entry_with e state).marked ≡ false → e.state ≡ state
