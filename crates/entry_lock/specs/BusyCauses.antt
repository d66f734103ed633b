-- Why a try found its entry busy, by the control words that it noted and found.
use Rattle.std.specs.Prelude.{◌≡◌, ◌≢◌, ◌⊎◌, true, false}
use Rattle.entry_model.specs.declared.line.Line.{Line}
use Rattle.entry_lock.specs.declared.busy.Busy.{Busy}
use Rattle.entry_lock.specs.Layout.{lock_bit, shut_bit, control_of_word}
use Rattle.entry_lock.specs.LineSteps.{is_gone_from}

-- A hypervisor call: the word found at the lock step has the lock bit set.
pub record IsHeldElsewhere (b : Busy) : Type 0 where
  pub one : b.looked ≡ b.found
  pub locked : lock_bit b.found ≡ true

-- An access: one of the two words is shut, or they differ.
abbrev pub IsChanging : Busy → Type 0
IsChanging b =
    (shut_bit b.looked ≡ true) ⊎ ((shut_bit b.found ≡ true) ⊎ (b.looked ≢ b.found))

-- An access by a cached translation: the mark found another word, though the entry is at the line's
-- stamp.
pub record IsMissedMark (b : Busy) (cached : Line) : Type 0 where
  pub differ : b.looked ≢ b.found
  pub still : is_gone_from (control_of_word b.found) cached.stamp ≡ false
