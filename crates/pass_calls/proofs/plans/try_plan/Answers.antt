use Rattle.std.proofs.Common.{subst}
use Rattle.call_plan.specs.Plans.{Fits}
use Rattle.call_plan.proofs.TrialCalls.{trial_in, trial_few}
use Rattle.pass_calls.proofs.plans.try_plan.Goals as goal

pub try_calls-requires-clause-fits : goal.try_calls-requires-clause-fits
try_calls-requires-clause-fits g c =
    trial_in _ c.in-Tries.trial
    (subst (Fits (g.S.TriedStore.table_order c.args.store.now)) c.in-Tries.is c.requires.fits)

pub told_registers-requires-clause-few : goal.told_registers-requires-clause-few
told_registers-requires-clause-few g c =
    let fits = subst (Fits (g.S.TriedStore.table_order c.args.store.now)) c.in-Tries.is
    c.requires.fits in
    rw c.as_slice.ensures.value
    (trial_few _ c.in-Tries.trial _ fits c.in_ok-ending-in-Tries.ensures.trial)
