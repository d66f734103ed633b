use Rattle.std.proofs.Common.{sym, subst}
use Rattle.papr_shared.specs.Calls.{NeverBusy}
use Rattle.papr_shared.proofs.NeverBusy.{enter_never}
use Rattle.papr_shared.proofs.enter.papr_try_h_enter.Goals as goal

pub begin-reply-requires-clause-never_busy : goal.begin-reply-requires-clause-never_busy
begin-reply-requires-clause-never_busy c =
    subst NeverBusy (sym c.enter_plan-plan.ensures.plan) (enter_never _ _ _ _ _ _)
