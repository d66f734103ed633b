use Rattle.std.proofs.Common.{◌≡◌, refl, sym, ap, ◌∙◌}
use Rattle.std.proofs.lemmas.Bool.{and_parts}
use Rattle.entry_model.specs.State.{State}
use Rattle.entry_model.specs.declared.receipt.Receipt.{Receipt}
use Rattle.entry_model.specs.Receipt.{after_of}
use Rattle.lock_core.specs.declared.control.Control.{Control}
use Rattle.lock_core.specs.declared.doing.Doing.{Doing}
use Rattle.lock_core.specs.declared.phase.Phase.TheVariants.{HeldShut}
use Rattle.lock_core.specs.declared.step.Step.TheVariants.{Shut, Settle}
use Rattle.lock_core.specs.Words.{receipt}
use Rattle.lock_core.specs.Steps.{with_noted}
use Rattle.entry_lock.specs.StepViews.{view_with_step, view_in_phase, view_with_receipt}
use Rattle.entry_lock.proofs.CallStepFacts.{found_valid, found_changes, changed_stored, changed_bare}
use Rattle.entry_lock.proofs.ViewChanges.{receipt_by}
use Rattle.entry_lock.proofs.calls.change_entry.Goals as goal
use Rattle.entry_lock.proofs.calls.change_entry.Goals.{then-after, else-after}
use Rattle.lock_core.proofs.Steps.{receipt_after}

pub returns-clause-receipt : goal.returns-clause-receipt
returns-clause-receipt c =
    receipt_by (with_noted c.args.doing.now c.control_of-control.result) c.args.doing.now.entry
    c.args.doing.now.op c.outcome_by-receipt.result.receipt c.outcome_by-receipt.ensures.receipt
    refl refl

pub returns-clause-valid : goal.returns-clause-valid
returns-clause-valid c =
    let t = c.shut-found.ensures.told in
    let means = c.control_of-control.ensures.means t.0 t.1 in
    found_valid c.args.doing.now c.control_of-control.result c.requires.op
    (ap (λ (k : Control). k.valid) means ∙ t.2) (ap (λ (k : Control). k.stamp) means ∙ t.3)
    c.outcome_by-receipt.result.receipt c.outcome_by-receipt.ensures.receipt

pub returns-clause-changes : goal.returns-clause-changes
returns-clause-changes c =
    let t = c.shut-found.ensures.told in
    let means = c.control_of-control.ensures.means t.0 t.1 in
    found_changes c.args.doing.now c.control_of-control.result c.requires.op
    (ap (λ (k : Control). k.valid) means ∙ t.2) (ap (λ (k : Control). k.stamp) means ∙ t.3)
    c.outcome_by-receipt.result.receipt c.outcome_by-receipt.ensures.receipt
    (and_parts _ _ c.requires.may).1

pub returns-clause-made : goal.returns-clause-made
returns-clause-made c =
    let v = c.args.seat.now.me.0 in
    let d = c.args.doing.now in
    let t = c.shut-found.ensures.told in
    let r = c.outcome_by-receipt.result.receipt in
    let last = with_noted d c.control_of-control.result in
    let means = c.control_of-control.ensures.means t.0 t.1 in
    let shut : c.shut-found.new.seat.me.0 ≡ view_in_phase (view_with_step v Shut) (HeldShut last) =
    t.4 ∙ ap
    (λ (k : Control). view_in_phase (view_with_step v Shut) (HeldShut (with_noted d k)))
    (sym means) in
    let made : receipt c.with_noted-last.result ≡ r = ap (λ (z : Doing). receipt z)
    c.with_noted-last.ensures ∙ sym c.outcome_by-receipt.ensures.receipt in
    let settled : c.settle.new.seat.me.0 ≡ view_with_receipt
    (view_with_step c.if-after.seat.me.0 Settle) r = c.settle.ensures.told.0 ∙ ap
    (view_with_receipt (view_with_step c.if-after.seat.me.0 Settle)) made in
    let valid : (after_of r).valid ≡ c.after.inside.valid = ap (λ (z : Receipt). (after_of z).valid)
    c.outcome_by-receipt.ensures.receipt ∙ ap (λ (s : State). s.valid)
    (receipt_after last ∙ sym c.outcome_by-receipt.ensures.after ∙ sym c.after.view_is) in
    elim c.if-after.branch [
      | then-after w ↦ changed_stored v c.shut-found.new.seat.me.0 w.store_data.new.seat.me.0
          c.if-after.seat.me.0 c.settle.new.seat.me.0 last r shut w.store_data.ensures.told
          ((λ i. (w.seat-is i).me.0) ∙ w.store_data-then-after.ensures.told) settled
          (valid ∙ w.if-after.true)
      | else-after w ↦ changed_bare v c.shut-found.new.seat.me.0 c.settle.new.seat.me.0 last r shut
          (settled ∙ (λ i. view_with_receipt (view_with_step (w.seat-is i).me.0 Settle) r))
          (valid ∙ w.if-after.false)
    ]
