use Rattle.std.specs.Prelude.{not}
use Rattle.std.proofs.Common.{sym, ap, ◌∙◌}
use Rattle.entry_model.specs.State.{State}
use Rattle.entry_model.specs.History.{state_eq}
use Rattle.entry_model.proofs.Sorted.{state_self}
use Rattle.entry_lock.proofs.outcome.differs.Goals as goal

pub returns-then-is_left : goal.returns-then-is_left
returns-then-is_left c =
    let same = c.requires.left (sym c.is_left.ensures ∙ c.if-is_left.true) in
    sym
    (ap (λ (s : State). not (state_eq s c.args.before.now)) same
    ∙ ap not (state_self c.args.before.now))
