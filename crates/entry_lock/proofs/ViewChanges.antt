-- What single steps leave of a view.
use Rattle.std.proofs.Common.{◌≡◌, ℕ, refl, sym, ap, ◌∙◌, subst, arith}
use Rattle.entry_model.specs.declared.receipt.Receipt.{Receipt}
use Rattle.entry_model.specs.Fronts.{IsAhead}
use Rattle.lock_core.specs.declared.control.Control.{Control}
use Rattle.lock_core.specs.declared.doing.Doing.{Doing}
use Rattle.lock_core.specs.declared.step.Step.{Step}
use Rattle.lock_core.specs.Words.{receipt}
use Rattle.entry_model.specs.declared.operation.Op.{Op}
use Rattle.entry_model.specs.Receipt.{IsReceiptOf}
use Rattle.entry_lock.specs.declared.rule.View.{View}
use Rattle.entry_lock.specs.Layout.{Means, shut_bit}
use Rattle.entry_lock.specs.StepViews.{view_with_step, view_with_receipt, view_with_count}
use Rattle.entry_lock.specs.PassChanges.{MadeReceipt}
use Rattle.entry_lock.proofs.Bits.{control_is}

-- A step that is counted and makes a receipt.
pub made_counted :
    (v w : View) (step : Step) (r : Receipt) (e l f : ℕ)
    → w ≡ view_with_count (view_with_receipt (view_with_step v step) r) e l f
    → IsAhead v.fronts r
    → MadeReceipt v w r
made_counted v w step r e l f is ahead =
    subst (λ z. MadeReceipt v z r) (sym is)
    (record {
      receipts = refl;
      lines = refl;
      fronts = refl;
      ahead = ahead;
      numbers = refl;
      passes = refl;
      opening = refl;
      count = omega arith;
    })

-- The shut bit of a number is that of its control word.
pub shut_bit_is : (word : ℕ) (k : Control) → Means word k → shut_bit word ≡ k.shut
shut_bit_is word k m = ap (λ (c : Control). c.shut) (control_is word k m)

-- The receipt of an operation is of its entry, whatever else is known of it.
pub receipt_is_of : (d : Doing) → IsReceiptOf d.entry d.op (receipt d)
unfolding receipt
receipt_is_of d = record { entry = refl; op = refl }

pub receipt_by :
    (d : Doing) (e : ℕ) (op : Op) (r : Receipt)
    → r ≡ receipt d
    → d.entry ≡ e
    → d.op ≡ op
    → IsReceiptOf e op r
receipt_by d e op r is entry same =
    let o = receipt_is_of d in
    record {
      entry = ap (λ (z : Receipt). z.entry) is ∙ o.entry ∙ entry;
      op = ap (λ (z : Receipt). z.op) is ∙ o.op ∙ same;
    }
