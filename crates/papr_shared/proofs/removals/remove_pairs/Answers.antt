use Rattle.std.proofs.Common.{sym, subst}
use Rattle.papr_shared.specs.Calls.{NeverBusy}
use Rattle.papr_shared.proofs.NeverBusy.{bulk_never}
use Rattle.papr_shared.proofs.removals.remove_pairs.Goals as goal

pub begin-reply-requires-clause-never_busy : goal.begin-reply-requires-clause-never_busy
begin-reply-requires-clause-never_busy c =
    subst NeverBusy (sym c.bulk_remove_plan-plan.ensures.plan) (bulk_never _ _)
