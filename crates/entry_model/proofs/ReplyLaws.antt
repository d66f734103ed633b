-- The laws of replies that are stated by words of their own.
use Rattle.std.proofs.Common.{◌≡◌, true, false, refl, sym, ◌∙◌}
use Rattle.std.proofs.lemmas.Bool.{false≢true}
use Rattle.entry_model.specs.State.{State}
use Rattle.entry_model.specs.declared.operation.Answer.{Answer}
use Rattle.entry_model.specs.declared.operation.Op.{Op}
use Rattle.entry_model.specs.Reply.{reply_of}
use Rattle.entry_model.specs.Receipt.{is_access}
use Rattle.entry_model.proofs.Replied.{Replied, replied, left, changed, accessed}

pub empty_untouched :
    (s : State) (op : Op) → is_access op ≡ true → s.valid ≡ false → (reply_of s op).1 ≡ s
empty_untouched s op = at (replied s op) where
  at :
      {op : Op} {x : Answer × State}
      → Replied s op x
      → is_access op ≡ true
      → s.valid ≡ false
      → x.1 ≡ s
  at (left a is) access none = refl
  at (changed a next changes is) access none = absurd (false≢true (sym is.access ∙ access))
  at (accessed tag base key no_execute want masks valid) access none =
      absurd (false≢true (sym none ∙ valid))
