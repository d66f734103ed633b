use Rattle.history_check.proofs.StepRun.{AreMade}
use Rattle.history_check.proofs.ordering.make_steps.Given as goal

abbrev pub invariant-loop-step : goal.invariant-loop-step
invariant-loop-step l =
    AreMade l.lines l.fn.states.items l.order l.step-index l.states.items l.found.items
