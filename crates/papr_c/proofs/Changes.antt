-- What an entry's answer says of its state: a change raises the stamp, and without one, or an
-- access that is allowed, the entry is as it was.
use Rattle.std.proofs.Common.{◌≡◌, ◌+◌, true, false, refl, ap, sym, ◌∙◌}
use Rattle.entry_model.specs.State.{State}
use Rattle.entry_model.specs.declared.operation.Answer.{Answer}
use Rattle.entry_model.specs.declared.operation.Op.{Op}
use Rattle.entry_model.specs.declared.receipt.Receipt.{Receipt}
use Rattle.entry_model.specs.Receipt.{after_of, is_at, is_change}
use Rattle.entry_model.proofs.Replied.{Replied, replied, left, changed, accessed}
use Rattle.std.proofs.lemmas.Bool.{false≢true}

pub raises : (r : Receipt) → is_change r.answer ≡ true → (after_of r).stamp ≡ r.before.stamp + 1
raises r is = at (replied r.before r.op) (ap is_change (sym r.lawful) ∙ is) where
  at :
      {op : Op} {x : Answer × State}
      → Replied r.before op x
      → is_change x.0 ≡ true
      → x.1.stamp ≡ r.before.stamp + 1
  at (left a stays) e = absurd (false≢true (sym stays.no_change ∙ e))
  at (changed a next changes made) e = refl
  at (accessed tag base key no_execute want masks valid) e = absurd (false≢true e)

pub unchanged :
    (r : Receipt) → is_change r.answer ≡ false → is_at r.answer ≡ false → after_of r ≡ r.before
unchanged r none not_at =
    at (replied r.before r.op) (ap is_change (sym r.lawful) ∙ none)
    (ap is_at (sym r.lawful) ∙ not_at)
  where
    at :
        {op : Op} {x : Answer × State}
        → Replied r.before op x
        → is_change x.0 ≡ false
        → is_at x.0 ≡ false
        → x.1 ≡ r.before
    at (left a stays) e f = refl
    at (changed a next changes made) e f = absurd (false≢true (sym e ∙ made.change))
    at (accessed tag base key no_execute want masks valid) e f = absurd (false≢true (sym f))
