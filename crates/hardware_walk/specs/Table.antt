-- A table of entries that hardware walks: each with its callers and its places, and steps on one
-- entry each.
use Rattle.std.specs.Prelude.{◌≡◌, ℕ, suc, ◌==◌, if◌then◌else◌, List, [], ◌∷◌, ◌++◌, Option, Some, None, slice_get, slice_set}
use Rattle.entry_model.specs.State.{State, IsCanonicalState}
use Rattle.entry_model.specs.History.{IsLegal, Regrouped, history}
use Rattle.entry_model.specs.declared.receipt.Receipt.{Receipt}
use Rattle.hardware_walk.specs.Machine.{Machine, opening_machine}
use Rattle.hardware_walk.specs.Steps.{Orders, Move, after_move, run}

-- The entries from this number on.
abbrev pub opened_from : ℕ → List State → ℕ → ℕ → List Machine
opened_from e [] callers places = []
opened_from e (s ∷ states) callers places =
    opening_machine e s callers places ∷ opened_from (suc e) states callers places

-- The table after a step on one entry.
abbrev pub moved_at : Orders → List Machine → ℕ → Move → Option Machine → List Machine
moved_at orders table e move None = table
moved_at orders table e move (Some m) = slice_set table e (after_move orders m move)

-- After moves, of which the newest is first. A move of no entry changes nothing.
abbrev pub run_table : Orders → List Machine → List (ℕ × Move) → List Machine
run_table orders table [] = table
run_table orders table (s ∷ older) =
    let before : List Machine = run_table orders table older in
    moved_at orders before s.0 s.1 (slice_get before s.0)

-- The moves on one entry.
abbrev pub moves_of : ℕ → List (ℕ × Move) → List Move
moves_of e [] = []
moves_of e (s ∷ older) = if s.0 == e then s.1 ∷ moves_of e older else moves_of e older

-- The table of these states after these moves.
abbrev pub table_after : Orders → List State → ℕ → ℕ → List (ℕ × Move) → List Machine
table_after orders states callers places moves =
    run_table orders (opened_from 0 states callers places) moves

-- All receipts, entry by entry.
abbrev pub logs_of : List Machine → List Receipt
logs_of [] = []
logs_of (m ∷ table) = m.log ++ logs_of table

-- Each entry goes its own way, by the moves on it.
abbrev pub EntriesAreApart : Orders → Type 0
EntriesAreApart orders =
    (states : List State) (callers places : ℕ) (moves : List (ℕ × Move)) (e : ℕ) (s : State)
    → slice_get states e ≡ Some s
    → slice_get (table_after orders states callers places moves) e
    ≡ Some (run orders (opening_machine e s callers places) (moves_of e moves))

-- In whatever order the receipts of all callers and all hardware are listed: those of an entry,
-- sorted by place, are a legal history from its opening state to the state that it counts with.
abbrev pub EveryHistoryIsLegal : Orders → Type 0
EveryHistoryIsLegal orders =
    (states : List State) (callers places : ℕ) (moves : List (ℕ × Move)) (listed : List Receipt)
    → ((e : ℕ) (s : State) → slice_get states e ≡ Some s → IsCanonicalState s)
    → Regrouped (logs_of (table_after orders states callers places moves)) listed
    → (e : ℕ) (s : State)
    → slice_get states e ≡ Some s
    → (m : Machine)
    × (slice_get (table_after orders states callers places moves) e ≡ Some m)
    × IsLegal s (history e listed) m.entry.published
