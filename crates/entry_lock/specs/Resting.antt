-- The states of a table that a pass with all shares reads while the table lasts: what it closes to.
use Rattle.std.specs.Prelude.{◌≡◌, ℕ, ◌<◌, List, length, slice_index}
use Rattle.entry_model.specs.State.{State}
use Rattle.entry_model.specs.Run.{state_at}
use Rattle.entry_lock.specs.declared.rule.View.{View}
use Rattle.entry_lock.specs.Layout.{entry_states}
use Rattle.entry_lock.specs.Closing.{Closes}
use Rattle.entry_lock.specs.Plays.{Telling}

-- The pass closes the table to the states of some words, and this is the one at the place.
abbrev pub IsClosingWord : List State → View → ℕ → ℕ → Type 0
IsClosingWord opening v place found =
    (words : List ℕ) × (slice_index words place ≡ found)
    × Closes opening v (entry_states words (length opening))

-- The load of a word by a pass with all shares that is at no operation: the pass stays as it is,
-- and it closes the table to the states of words of which this is one.
abbrev pub RestPlay : Telling
RestPlay s m found w = (w ≡ m) × IsClosingWord m.0.opening m.0 s.word found

-- The pass closes the table to states of which this is the entry's.
abbrev pub Rests : List State → View → ℕ → State → Type 0
Rests opening v e state =
    (closing : List State) × Closes opening v closing × (state_at closing e ≡ state)

-- A pass closes a table to one list of states: where each entry of a list rests in its state, the
-- pass closes the table to the list.
abbrev pub StatesAtRestClose : Type 0
StatesAtRestClose =
    (opening closing : List State) (v : View) → 0 < length opening
    → length closing ≡ length opening
    → ((e : ℕ) → e < length opening → Rests opening v e (state_at closing e))
    → Closes opening v closing
