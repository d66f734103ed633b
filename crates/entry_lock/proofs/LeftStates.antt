-- An entry whose answer says so is left as it is.
use Rattle.std.specs.Prelude.{◌≡◌, true, false}
use Rattle.std.proofs.Common.{refl, sym, ◌∙◌}
use Rattle.std.proofs.lemmas.Bool.{false≢true}
use Rattle.entry_model.specs.State.{State}
use Rattle.entry_model.specs.declared.operation.Answer.{Answer}
use Rattle.entry_model.specs.declared.operation.Answer.TheVariants.{Entered, Removed, Protected, Was}
use Rattle.entry_model.specs.declared.operation.Op.{Op}
use Rattle.entry_model.specs.Reply.{reply_of}
use Rattle.entry_model.specs.Receipt.{is_change}
use Rattle.entry_model.proofs.Replied.{Replied, replied, left, changed, accessed}
use Rattle.entry_lock.specs.LeftStates.{is_left}

-- An answer of a change doesn't say that the entry is left.
changes_leave : (a : Answer) → is_change a ≡ true → is_left a ≡ false
changes_leave Entered e = refl
changes_leave Removed e = refl
changes_leave Protected e = refl
changes_leave Was e = refl
changes_leave other e = cc

pub left_state : (s : State) (op : Op) → is_left (reply_of s op).0 ≡ true → (reply_of s op).1 ≡ s
left_state s op = at (replied s op) where
  at : {op : Op} {x : Answer × State} → Replied s op x → is_left x.0 ≡ true → x.1 ≡ s
  at (left a is) h = refl
  at (changed a next changes is) h = absurd (false≢true (sym (changes_leave a is.change) ∙ h))
  at (accessed tag base key no_execute want masks valid) h = absurd (false≢true h)
