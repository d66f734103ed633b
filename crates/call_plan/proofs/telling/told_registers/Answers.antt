use Rattle.std.proofs.Common.{ap, ◌∙◌}
use Rattle.call_plan.specs.Enter.{told_by_ending}
use Rattle.call_plan.proofs.Search.{told_is}
use Rattle.call_plan.proofs.telling.told_registers.Goals as goal

pub returns-in-Entered : goal.returns-in-Entered
returns-in-Entered c =
    rw c.in-Entered.is
    (c.entered_registers.ensures
    ∙ ap told_by_ending (rw c.in-Entered.is at c.requires.ending)
    ∙ told_is c.args.receipts.now)
