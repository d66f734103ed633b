use Rattle.std.proofs.Common.{sym, subst}
use Rattle.papr_shared.specs.Calls.{NeverBusy}
use Rattle.papr_shared.proofs.NeverBusy.{read_never}
use Rattle.papr_shared.proofs.single.papr_try_h_read.Goals as goal

pub begin-reply-requires-clause-never_busy : goal.begin-reply-requires-clause-never_busy
begin-reply-requires-clause-never_busy c =
    subst NeverBusy (sym c.read_plan-plan.ensures.plan) (read_never _ _ _)
