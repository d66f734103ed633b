use Rattle.std.proofs.Common.{◌≡◌, length, arith, subst}
use Rattle.entry_model.specs.Calls.{AreCallsIn}
use Rattle.entry_model.specs.Replies.{reply_with}
use Rattle.entry_model.specs.Trial.{IsReplyOf}
use Rattle.call_plan.specs.Bulk.{h_bulk_remove_plan}
use Rattle.call_plan.proofs.RemovalCalls.{removals_in}
use Rattle.call_plan.proofs.running.run_removals.Goals as goal

pub make_trial-ending-requires : goal.make_trial-ending-requires
make_trial-ending-requires g c =
    let eight : length c.args.pairs.now ≡ 8 = omega arith in
    subst
    (λ order. AreCallsIn order (h_bulk_remove_plan c.order-order.result c.args.pairs.now).calls)
    c.order-order.ensures.value
    (removals_in c.order-order.result c.args.pairs.now c.order-order.ensures.order.0 eight)

pub returns-clause-reply : goal.returns-clause-reply
unfolding h_bulk_remove_plan
returns-clause-reply g c =
    let pairs = c.args.pairs.now in
    subst
    (λ order. IsReplyOf (h_bulk_remove_plan order pairs)
    (reply_with c.removal_registers.result c.make_trial-ending.new.receipts))
    c.order-order.ensures.value (record {
      trial = c.make_trial-ending.ensures.trial;
      told = rw c.as_slice.ensures.value at c.removal_registers.ensures;
    })
