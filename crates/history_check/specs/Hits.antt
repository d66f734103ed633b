-- The receipt of an access by a cached translation that is current and that the entry decides.
use Rattle.std.specs.Prelude.{◌≡◌, ◌==◌, ◌&&◌, Bool, true}
use Rattle.entry_model.specs.State.{State}
use Rattle.entry_model.specs.declared.operation.Op.{Op}
use Rattle.entry_model.specs.declared.line.Line.{Line}
use Rattle.entry_model.specs.declared.receipt.Receipt.{Receipt}
use Rattle.entry_model.specs.Receipt.{IsReceiptOf, is_decided}
use Rattle.entry_model.specs.CachedLines.{IsCurrent}

-- The state is valid, with the line's stamp and doublewords.
abbrev pub is_at_line : Line → State → Bool
is_at_line line s =
    ((s.valid && (s.stamp == line.stamp)) && (s.dword0 == line.dword0))
    && (s.dword1 == line.dword1)

-- This operation on the line's entry in this state, at which the line is current, and which the
-- entry decides.
pub record IsHitBy (line : Line) (op : Op) (s : State) (r : Receipt) : Type 0 where
  pub made : IsReceiptOf line.entry op r
  pub before : r.before ≡ s
  pub current : IsCurrent line r.before
  pub decided : is_decided r.answer ≡ true
