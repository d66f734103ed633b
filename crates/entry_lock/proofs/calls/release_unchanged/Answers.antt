use Rattle.std.proofs.Common.{refl, ap, ◌∙◌}
use Rattle.std.proofs.lemmas.Bool.{and_parts, not-true}
use Rattle.lock_core.specs.declared.control.Control.{Control}
use Rattle.lock_core.specs.Steps.{with_noted}
use Rattle.entry_lock.proofs.CallStepFacts.{found_valid, found_leaves}
use Rattle.entry_lock.proofs.ViewChanges.{receipt_by}
use Rattle.entry_lock.proofs.calls.release_unchanged.Goals as goal

pub returns-clause-receipt : goal.returns-clause-receipt
returns-clause-receipt c =
    receipt_by (with_noted c.args.doing.now c.control_of.result) c.args.doing.now.entry
    c.args.doing.now.op c.outcome_by.result.receipt c.outcome_by.ensures.receipt refl refl

pub returns-clause-valid : goal.returns-clause-valid
returns-clause-valid c =
    let t = c.release-found.ensures.told in
    let means = c.control_of.ensures.means t.0 t.1 in
    found_valid c.args.doing.now c.control_of.result c.requires.op
    (ap (λ (k : Control). k.valid) means ∙ t.2) (ap (λ (k : Control). k.stamp) means ∙ t.3)
    c.outcome_by.result.receipt c.outcome_by.ensures.receipt

pub returns-clause-leaves : goal.returns-clause-leaves
returns-clause-leaves c =
    let t = c.release-found.ensures.told in
    let means = c.control_of.ensures.means t.0 t.1 in
    found_leaves c.args.doing.now c.control_of.result c.requires.op
    (ap (λ (k : Control). k.valid) means ∙ t.2) (ap (λ (k : Control). k.stamp) means ∙ t.3)
    c.outcome_by.result.receipt c.outcome_by.ensures.receipt
    (not-true _ (and_parts _ _ c.requires.may).1)
