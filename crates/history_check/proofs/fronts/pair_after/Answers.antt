use Rattle.std.proofs.Common.{sym, ◌∙◌, ap}
use Rattle.entry_model.specs.History.{pair_of}
use Rattle.history_check.proofs.NextStates.{unchanged_after}
use Rattle.history_check.proofs.fronts.pair_after.Goals as goal

pub returns-else-may_change : goal.returns-else-may_change
returns-else-may_change c =
    c.pair_of-else-may_change.ensures.pair
    ∙ ap pair_of
    (unchanged_after c.args.receipt.now (sym c.may_change.ensures ∙ c.if-may_change.false))
