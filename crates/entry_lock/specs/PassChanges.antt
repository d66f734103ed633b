-- What calls leave of a pass: its view v before a call, and w after.
use Rattle.std.specs.Prelude.{◌≡◌, ℕ, ◌+◌, ◌*◌, ◌<◌, ◌≤◌, true, [], ◌∷◌, ◌++◌}
use Rattle.entry_model.specs.declared.line.Line.{Line}
use Rattle.entry_model.specs.declared.receipt.Receipt.{Receipt}
use Rattle.entry_model.specs.Fronts.{fronts_after, IsAhead, IsGone}
use Rattle.lock_core.specs.Machine.{shown_sightings}
use Rattle.entry_lock.specs.declared.busy.Busy.{Busy}
use Rattle.entry_lock.specs.declared.rule.View.{View}
use Rattle.entry_lock.specs.Layout.{control_of_word}
use Rattle.entry_lock.specs.StepViews.{raised_fronts}
use Rattle.entry_lock.specs.LineSteps.{is_gone_from}

-- The pass made no receipt.
pub record MadeNothing (v w : View) : Type 0 where
  pub live : w.actor.live ≡ v.actor.live
  pub receipts : w.actor.receipts ≡ v.actor.receipts
  pub lines : w.actor.lines ≡ v.actor.lines
  pub fronts : w.fronts ≡ v.fronts
  pub numbers : w.numbers ≡ v.numbers
  pub passes : w.passes ≡ v.passes
  pub opening : w.opening ≡ v.opening
  pub count : v.count ≤ w.count

-- The pass made this receipt and no other: it stands at the end of the list, once more than before,
-- and isn't before the front of its entry. The line that it shows is seen now.
pub record MadeReceipt (v w : View) (r : Receipt) : Type 0 where
  pub receipts : w.actor.receipts ≡ v.actor.receipts ++ r ∷ []
  pub lines : w.actor.lines ≡ v.actor.lines ++ shown_sightings r
  pub fronts : w.fronts ≡ fronts_after v.fronts r
  pub ahead : IsAhead v.fronts r
  pub numbers : w.numbers ≡ v.numbers
  pub passes : w.passes ≡ v.passes
  pub opening : w.opening ≡ v.opening
  pub count : v.count ≤ w.count

-- The Busy is of the entry e. The call took a lock step, look or mark; the last was on this entry
-- and had these two words.
pub record TellsLastStep (v w : View) (e : ℕ) (b : Busy) : Type 0 where
  pub entry : b.entry ≡ e
  pub count : v.count < w.count
  pub last : w.last ≡ b.entry
  pub looked : w.looked ≡ b.looked
  pub found : w.found ≡ b.found

-- The call took no more than so many lock steps, looks and marks.
abbrev pub TookAtMost : ℕ → View → View → Type 0
TookAtMost most v w = w.count ≤ v.count + most

-- The pass made no receipt, and the line is gone for it: the word that the last step found has left
-- the line's stamp, so the front of the entry is past it.
pub record FindsGone (v w : View) (cached : Line) : Type 0 where
  pub live : w.actor.live ≡ v.actor.live
  pub receipts : w.actor.receipts ≡ v.actor.receipts
  pub lines : w.actor.lines ≡ v.actor.lines
  pub fronts : w.fronts ≡ raised_fronts v.fronts cached.entry ((cached.stamp + 1) * 4)
  pub gone : IsGone w.fronts cached
  pub numbers : w.numbers ≡ v.numbers
  pub passes : w.passes ≡ v.passes
  pub opening : w.opening ≡ v.opening
  pub count : v.count < w.count
  pub last : w.last ≡ cached.entry
  pub left : is_gone_from (control_of_word w.found) cached.stamp ≡ true
