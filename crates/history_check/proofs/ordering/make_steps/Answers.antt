use Rattle.std.proofs.Common.{arith, sym, ◌∙◌}
use Rattle.history_check.proofs.StepRun.{step_made, step_kept}
use Rattle.history_check.proofs.ordering.make_steps.Goals as goal
use Rattle.history_check.proofs.ordering.make_steps.Goals.{then-may_change, else-may_change}

pub loop-step-preserved : goal.loop-step-preserved
loop-step-preserved c =
    elim c.if-may_change.branch [
      | then-may_change w ↦ rw w.states-is
          (step_made c.args.lines.now c.args.states.now.items c.args.order.now
          c.loop-step.step-index c.loop-step.states.items c.loop-step.found.items _ _
          c.index.result.now w.next_state.result (omega arith) c.index.ensures
          w.next_state.ensures c.loop-step.invariant)
      | else-may_change w ↦ rw w.states-is
          (step_kept c.args.lines.now c.args.states.now.items c.args.order.now
          c.loop-step.step-index c.loop-step.states.items c.loop-step.found.items _
          c.index.result.now (omega arith) c.index.ensures
          (sym c.may_change.ensures ∙ w.if-may_change.false) c.loop-step.invariant)
    ]
