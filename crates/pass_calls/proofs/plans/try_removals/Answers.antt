use Rattle.std.proofs.Common.{◌≡◌, ◌≤◌, length, arith, subst}
use Rattle.entry_model.specs.Calls.{AreCallsIn}
use Rattle.call_plan.specs.Bulk.{h_bulk_remove_plan}
use Rattle.call_plan.proofs.RemovalCalls.{removals_in}
use Rattle.pass_calls.proofs.plans.try_removals.Goals as goal

pub try_calls-requires-clause-fits : goal.try_calls-requires-clause-fits
try_calls-requires-clause-fits g c =
    let eight : length c.args.pairs.now ≡ 8 = omega arith in
    let low : 18 ≤ c.args.order = rw (c.requires.fits, ← c.order-order.ensures.value)
    c.order-order.ensures.order.0 in
    subst (λ order. AreCallsIn order (h_bulk_remove_plan c.args.order c.args.pairs.now).calls)
    c.requires.fits
    (removals_in c.args.order c.args.pairs.now low eight)

pub returns-clause-reply : goal.returns-clause-reply
unfolding h_bulk_remove_plan
returns-clause-reply g c = record {
  trial = c.in_ok-_ending.ensures.trial;
  told = rw c.as_slice.ensures.value at c.removal_registers.ensures;
}
