-- Receipts that were made one after the other on a list of states, which nobody else changes.
use Rattle.std.specs.Prelude.{◌≡◌, ℕ, ◌<◌, List, [], ◌∷◌, length, slice_set, slice_index_or}
use Rattle.entry_model.specs.State.{State, empty_state}
use Rattle.entry_model.specs.declared.receipt.Receipt.{Receipt}
use Rattle.entry_model.specs.Receipt.{after_of}

-- The state of an entry.
abbrev pub state_at : List State → ℕ → State
state_at states entry = slice_index_or states entry (empty_state 0)

-- The states after one receipt: only its entry's state is another.
abbrev pub states_after : List State → Receipt → List State
states_after states r = slice_set states r.entry (after_of r)

-- One receipt: its entry is in the table, its state before is the entry's, and the entry then has
-- its state after.
pub record IsStep (old : List State) (r : Receipt) (new : List State) : Type 0 where
  pub in_table : r.entry < length old
  pub before : r.before ≡ state_at old r.entry
  pub after : new ≡ states_after old r

-- The receipts lead from the first states to the second, one step after the other.
abbrev pub IsRun : List State → List Receipt → List State → Type 0
IsRun old [] new = new ≡ old
IsRun old (r ∷ rs) new = (mid : List State) × IsStep old r mid × IsRun mid rs new
