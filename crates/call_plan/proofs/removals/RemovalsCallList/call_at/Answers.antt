use Rattle.std.proofs.Common.{arith, ap, sym, ◌∙◌}
use Rattle.call_plan.specs.Bulk.{h_bulk_remove_plan}
use Rattle.entry_model.proofs.BegunLaws.{at_end}
use Rattle.call_plan.proofs.RemovalCalls.{call_asked, removals_at, removals_few}
use Rattle.call_plan.proofs.removals.RemovalsCallList.call_at.Goals as goal

pub returns-then-made-ge4 : goal.returns-then-made-ge4
returns-then-made-ge4 c =
    let list = c.args.self.now in
    let few = removals_few list.order list.pairs.now list.whole in
    sym
    (at_end (h_bulk_remove_plan list.order list.pairs.now).calls c.args.made
    (omega (arith, few, c.if-made-ge4.true)))

pub returns-in-Remove : goal.returns-in-Remove
returns-in-Remove c =
    let list = c.args.self.now in
    sym
    (removals_at list.order list.pairs.now c.args.made list.whole
    (omega (arith, c.if-made-ge4.false)) c.requires
    ∙ ap call_asked (sym c.asked_by.ensures ∙ c.in-Remove.is))

pub returns-in-End : goal.returns-in-End
returns-in-End c =
    let list = c.args.self.now in
    sym
    (removals_at list.order list.pairs.now c.args.made list.whole
    (omega (arith, c.if-made-ge4.false)) c.requires
    ∙ ap call_asked (sym c.asked_by.ensures ∙ c.in-End.is))

pub returns-in-Refused : goal.returns-in-Refused
returns-in-Refused c =
    let list = c.args.self.now in
    sym
    (removals_at list.order list.pairs.now c.args.made list.whole
    (omega (arith, c.if-made-ge4.false)) c.requires
    ∙ ap call_asked (sym c.asked_by.ensures ∙ c.in-Refused.is))
