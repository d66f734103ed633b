use Rattle.trace_read.proofs.NumbersApart.{AreWindows-push}
use Rattle.trace_read.proofs.windows.WindowLines.push.Goals as goal

pub invariant_of-self : goal.invariant_of-self
invariant_of-self c =
    rw c.push.ensures.items
    (AreWindows-push _ _ c.self.invariant c.requires.possible
    (rw (← c.self.view_is) at c.requires.room) (rw (← c.self.view_is) at c.requires.fresh))
