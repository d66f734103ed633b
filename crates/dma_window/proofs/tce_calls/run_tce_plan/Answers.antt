use Rattle.std.proofs.Common.{subst}
use Rattle.entry_model.specs.Calls.{AreCallsIn}
use Rattle.dma_window.specs.TcePlans.{plan_of}
use Rattle.dma_window.proofs.TcePlanCalls.{tce_calls_in}
use Rattle.dma_window.proofs.tce_calls.run_tce_plan.Goals as goal

pub make_trial-ending-requires : goal.make_trial-ending-requires
make_trial-ending-requires g c =
    subst (λ order. AreCallsIn order (plan_of c.args.plan.now).calls) c.order-order.ensures.value
    (tce_calls_in c.order-order.result c.args.plan.now c.order-order.ensures.order.0 c.requires)
