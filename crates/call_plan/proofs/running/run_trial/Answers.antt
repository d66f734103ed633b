use Rattle.call_plan.proofs.TrialCalls.{trial_in, trial_few}
use Rattle.call_plan.proofs.running.run_trial.Goals as goal

pub make_trial-ending-requires : goal.make_trial-ending-requires
make_trial-ending-requires g c = trial_in _ c.args.trial.now c.requires.fits

pub told_registers-requires-clause-few : goal.told_registers-requires-clause-few
told_registers-requires-clause-few g c =
    rw c.as_slice.ensures.value
    (trial_few _ c.args.trial.now _ c.requires.fits c.make_trial-ending.ensures.trial)
