-- A page table as a dump shows it: its number, order and place, and its valid entries.
use Rattle.std.specs.Prelude.{ℕ, ◌+◌, List, [], ◌∷◌, if◌then◌else◌}
use Rattle.entry_model.specs.State.{State}
use Rattle.trace_reply.specs.declared.shown.Shown.{Shown}

-- The valid entries from an index on, each with its index.
abbrev pub valid_from : ℕ → List State → List (ℕ × State)
valid_from entry [] = []
valid_from entry (s ∷ ss) =
    if s.valid then (entry, s) ∷ valid_from (entry + 1) ss else valid_from (entry + 1) ss

-- What a dump shows of the table of this number, order and place: of these states the valid ones,
-- each with its index.
abbrev pub table_shown : ℕ → ℕ → ℕ → List State → Shown
table_shown number order place states = record {
  number = number;
  order = order;
  place = place;
  states = valid_from 0 states;
}
