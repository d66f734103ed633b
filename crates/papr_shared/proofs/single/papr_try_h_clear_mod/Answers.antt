use Rattle.std.proofs.Common.{sym, subst}
use Rattle.papr_shared.specs.Calls.{NeverBusy}
use Rattle.papr_shared.proofs.NeverBusy.{clear_mod_never}
use Rattle.papr_shared.proofs.single.papr_try_h_clear_mod.Goals as goal

pub begin-reply-requires-clause-never_busy : goal.begin-reply-requires-clause-never_busy
begin-reply-requires-clause-never_busy c =
    subst NeverBusy (sym c.clear_mod_plan-plan.ensures.plan) (clear_mod_never _ _)
