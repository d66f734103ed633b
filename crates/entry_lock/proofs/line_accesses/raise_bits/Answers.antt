use Rattle.std.proofs.Common.{ap, ◌∙◌}
use Rattle.lock_core.specs.declared.doing.Doing.{Doing}
use Rattle.entry_lock.specs.CallSteps.{leaves_state}
use Rattle.entry_lock.proofs.CallStepFacts.{changes_if}
use Rattle.entry_lock.proofs.ViewChanges.{receipt_by}
use Rattle.entry_lock.proofs.LineFacts.{current_receipt}
use Rattle.entry_lock.proofs.line_accesses.raise_bits.Goals as goal

pub returns-then-found-looked-clause-receipt : goal.returns-then-found-looked-clause-receipt
returns-then-found-looked-clause-receipt c = let l = c.requires.looked in
    receipt_by c.args.doing.now _ _ c.args.outcome.receipt c.requires.outcome
    (ap (λ (d : Doing). d.entry) l.begun_at) (ap (λ (d : Doing). d.op) l.begun_at)

pub returns-then-found-looked-clause-current : goal.returns-then-found-looked-clause-current
returns-then-found-looked-clause-current c = let l = c.requires.looked in
    current_receipt c.args.known.now c.args.op c.args.doing.now c.args.outcome.receipt l.begun_at
    l.valid l.stamp l.clear c.requires.outcome

pub returns-then-found-looked-clause-changes : goal.returns-then-found-looked-clause-changes
returns-then-found-looked-clause-changes c =
    ap leaves_state c.requires.outcome ∙ changes_if c.args.doing.now c.requires.may
