use Rattle.std.proofs.Common.{subst}
use Rattle.std.specs.Arc.{arc_value}
use Rattle.shared_pass.specs.Held.{IsHeldBy}
use Rattle.shared_pass.proofs.working.Working.again.Goals as goal

pub attempt-requires-clause-fits : goal.attempt-requires-clause-fits
attempt-requires-clause-fits c =
    let working = c.args.self.now in
    let begun = subst (λ p. IsHeldBy (arc_value working.sharer.table).order p working.receipts)
    c.requires working.begun in
    c.plan.ensures.fits _ begun.0
