use Rattle.std.proofs.Common.{refl, subst, sym, ap, ◌∙◌}
use Rattle.entry_model.specs.declared.receipt.Receipt.{Receipt}
use Rattle.entry_lock.specs.PassChanges.{MadeReceipt}
use Rattle.entry_lock.specs.CallSteps.{leaves_state}
use Rattle.entry_lock.proofs.CallStepFacts.{changes_if, valid_before}
use Rattle.entry_lock.proofs.ViewChanges.{receipt_by, made_counted}
use Rattle.entry_lock.proofs.accesses.raise_bits.Goals as goal

pub returns-then-found-looked-clause-made : goal.returns-then-found-looked-clause-made
returns-then-found-looked-clause-made c =
    let t = c.mark-found.ensures.told in
    let p = t.3 (c.if-found-looked.true ∙ c.word_from-looked.ensures.value) in
    subst (λ (r : Receipt). MadeReceipt c.args.seat.now.me.0 c.mark-found.new.seat.me.0 r)
    (sym c.requires.outcome)
    (made_counted c.args.seat.now.me.0 c.mark-found.new.seat.me.0 _ _ _ _ _ p.0 p.1)

pub returns-then-found-looked-clause-receipt : goal.returns-then-found-looked-clause-receipt
returns-then-found-looked-clause-receipt c =
    receipt_by c.args.doing.now _ _ c.args.outcome.receipt c.requires.outcome refl refl

pub returns-then-found-looked-clause-valid : goal.returns-then-found-looked-clause-valid
returns-then-found-looked-clause-valid c =
    ap (λ (r : Receipt). r.before.valid) c.requires.outcome ∙ valid_before c.args.doing.now

pub returns-then-found-looked-clause-changes : goal.returns-then-found-looked-clause-changes
returns-then-found-looked-clause-changes c =
    ap leaves_state c.requires.outcome ∙ changes_if c.args.doing.now c.requires.may
