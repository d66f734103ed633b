use Rattle.std.proofs.Common.{sym, ◌∙◌}
use Rattle.history_check.proofs.Comparing.{begins, begins_not}
use Rattle.history_check.proofs.fitting.begins_with.Goals as goal

pub returns-then-starts_with-clause-some : goal.returns-then-starts_with-clause-some
returns-then-starts_with-clause-some c =
    begins c.args.given.now c.args.text.now
    (sym c.starts_with.ensures.value ∙ c.if-starts_with.true)

pub returns-else-starts_with-clause-none : goal.returns-else-starts_with-clause-none
returns-else-starts_with-clause-none c =
    λ rest same.
    begins_not c.args.given.now c.args.text.now rest
    (sym c.starts_with.ensures.value ∙ c.if-starts_with.false) same
