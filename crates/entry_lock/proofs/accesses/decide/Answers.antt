use Rattle.std.proofs.Common.{refl, ap, ◌∙◌}
use Rattle.lock_core.specs.Steps.{with_noted}
use Rattle.entry_model.specs.declared.receipt.Receipt.{Receipt}
use Rattle.entry_lock.proofs.CallStepFacts.{valid_before}
use Rattle.entry_lock.proofs.ViewChanges.{receipt_by}
use Rattle.entry_lock.proofs.accesses.decide.Goals as goal

pub returns-then-decides-clause-receipt : goal.returns-then-decides-clause-receipt
returns-then-decides-clause-receipt c =
    let t = c.look_again-found.ensures.told in
    let by = c.decides.ensures.decided c.if-decides.true t.0 t.1 in
    receipt_by (with_noted c.args.doing.now t.0) _ _ _ by.1 refl refl

pub returns-then-decides-clause-valid : goal.returns-then-decides-clause-valid
returns-then-decides-clause-valid c =
    let t = c.look_again-found.ensures.told in
    let by = c.decides.ensures.decided c.if-decides.true t.0 t.1 in
    ap (λ (r : Receipt). r.before.valid) by.1 ∙ valid_before (with_noted c.args.doing.now t.0)
    ∙ (t.3 by.0).1.valid
