use Rattle.std.proofs.Common.{sym, ◌∙◌}
use Rattle.history_check.specs.PlacedSteps.{line_op}
use Rattle.history_check.proofs.NextStates.{unchanged_next}
use Rattle.history_check.proofs.steps.next_state.Goals as goal

pub returns-else-may_change : goal.returns-else-may_change
returns-else-may_change c =
    unchanged_next (line_op c.args.act.now c.args.answer) c.args.answer c.args.state.now
    (sym c.may_change.ensures ∙ c.if-may_change.false)
