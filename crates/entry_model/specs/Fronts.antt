-- Fronts: for each entry the pair of stamp and number of bits that a processor has come to.
use Rattle.std.specs.Prelude.{◌≡◌, ℕ, ◌+◌, ◌*◌, ◌≤◌, max, List, [], ◌∷◌, length, map, slice_set, slice_index_or}
use Rattle.entry_model.specs.State.{State}
use Rattle.entry_model.specs.declared.line.Line.{Line}
use Rattle.entry_model.specs.declared.receipt.Receipt.{Receipt}
use Rattle.entry_model.specs.Receipt.{after_of}
use Rattle.entry_model.specs.History.{pair_of}

-- The front of an entry; beyond the table it is 0.
abbrev pub front_at : List ℕ → ℕ → ℕ
front_at fronts e = slice_index_or fronts e 0

-- Before all steps they are those of the opening states.
abbrev pub opening_fronts : List State → List ℕ
opening_fronts states = map pair_of states

-- The receipt isn't before the front of its entry.
abbrev pub IsAhead : List ℕ → Receipt → Type 0
IsAhead fronts r = front_at fronts r.entry ≤ pair_of r.before

-- The pair of its state after is the entry's new front.
abbrev pub fronts_after : List ℕ → Receipt → List ℕ
fronts_after fronts r = slice_set fronts r.entry (pair_of (after_of r))

-- Fronts of one table, none of them above the one that the others have of its entry.
pub record AreBelow (fronts others : List ℕ) : Type 0 where
  pub size : length others ≡ length fronts
  pub low : (e : ℕ) → front_at fronts e ≤ front_at others e

-- From these fronts, by these receipts in the order of their making, to those fronts. Fronts may
-- rise without a receipt.
abbrev pub KeepsFronts : List ℕ → List Receipt → List ℕ → Type 0
KeepsFronts fronts [] later = AreBelow fronts later
KeepsFronts fronts (r ∷ rs) later = IsAhead fronts r × KeepsFronts (fronts_after fronts r) rs later

-- The larger front of each entry.
abbrev pub larger : List ℕ → List ℕ → List ℕ
larger [] others = others
larger (front ∷ fronts) [] = front ∷ fronts
larger (front ∷ fronts) (other ∷ others) = max front other ∷ larger fronts others

-- The least pair of an entry that has left the line's stamp.
abbrev pub pair_beyond : Line → ℕ
pair_beyond line = (line.stamp + 1) * 4

-- The line is gone: its entry has left the line's stamp.
abbrev pub IsGone : List ℕ → Line → Type 0
IsGone fronts line = pair_beyond line ≤ front_at fronts line.entry
