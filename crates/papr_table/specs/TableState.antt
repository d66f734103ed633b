-- A plain table as contracts see it: its states and order, runs of receipts, and cached
-- translations.
use Rattle.std.specs.Prelude.{◌≡◌, ℕ, ◌<◌, List}
use Rattle.entry_model.specs.State.{State}
use Rattle.entry_model.specs.declared.line.Line.{Line}
use Rattle.entry_model.specs.declared.receipt.Receipt.{Receipt}
use Rattle.entry_model.specs.CachedLines.{Holds}
use Rattle.entry_model.specs.Run.{IsRun, state_at}

-- The states of all entries, and the table's order.
pub record TableState : Type 0 where
  pub states : List State
  pub order : ℕ

-- These receipts were made one after the other on the states, by each entry's own reply, and no
-- other entry changed.
pub record IsMade (old new : TableState) (receipts : List Receipt) : Type 0 where
  pub run : IsRun old.states receipts new.states
  pub order : new.order ≡ old.order

-- ---- cached translations
-- A cached translation is seen where it holds of its entry's state.
abbrev pub IsSeen : TableState → Line → Type 0
IsSeen t line = Holds line (state_at t.states line.entry)

-- It is gone where its entry's stamp is above its own.
abbrev pub IsGone : TableState → Line → Type 0
IsGone t line = line.stamp < (state_at t.states line.entry).stamp
