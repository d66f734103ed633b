use Rattle.std.proofs.Common.{sym, subst}
use Rattle.papr_shared.specs.Calls.{NeverBusy}
use Rattle.papr_shared.proofs.NeverBusy.{numbered_never}
use Rattle.papr_shared.proofs.hcall.papr_try_hcall.Goals as goal

pub begin-reply-requires-clause-never_busy : goal.begin-reply-requires-clause-never_busy
begin-reply-requires-clause-never_busy c =
    subst NeverBusy (sym c.plan_of_hcall-plan.ensures.plan)
    (numbered_never _ _ c.args.args.now c.of_number.result)
