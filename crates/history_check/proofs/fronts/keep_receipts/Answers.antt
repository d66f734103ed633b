use Rattle.std.proofs.Common.{subst}
use Rattle.std.proofs.lemmas.List.{take_all}
use Rattle.history_check.specs.FrontKeeping.{front_of, LeadsTo}
use Rattle.history_check.proofs.FrontSteps.{all_made, none_kept}
use Rattle.history_check.proofs.fronts.keep_receipts.Goals as goal

pub returns-then-not-branch-clause-no : goal.returns-then-not-branch-clause-no
returns-then-not-branch-clause-no c =
    λ no.
    none_kept (front_of c.args.fronts.now c.args.opening.now)
    (front_of c.loop-receipt.fronts c.args.opening.now) c.args.receipts.now
    c.loop-receipt.receipt-index c.receipt-item.result c.loop-receipt-test.true
    c.receipt-item.is c.loop-receipt.invariant
    (c.in_ok-keep_receipt.ensures.no c.if-not-branch.true)

pub returns-clause-yes : goal.returns-clause-yes
returns-clause-yes c =
    λ yes.
    subst
    (λ l.
    LeadsTo (front_of c.args.fronts.now c.args.opening.now) (all_made l)
    (front_of c.loop-receipt.fronts c.args.opening.now))
    (take_all c.loop-receipt.receipt-index c.args.receipts.now c.loop-receipt-test.false)
    c.loop-receipt.invariant
