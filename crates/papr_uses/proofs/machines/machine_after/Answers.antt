use Rattle.std.proofs.Common.{◌≡◌, ℕ, ◌+◌, ◌<◌, List, [], ◌∷◌, length, get_or, reverse, take, sym, ap, ◌∙◌}
use Rattle.std.proofs.lemmas.List.{take_more, reverse-append}
use Rattle.lock_core.specs.declared.step.Step.{Step}
use Rattle.lock_core.specs.Machine.{Machine}
use Rattle.lock_core.specs.Runs.{run}
use Rattle.lock_core.specs.Steps.{after_step}
use Rattle.papr_uses.proofs.machines.machine_after.Goals as goal

-- One step more.
one_more :
    (m core new : Machine) (steps : List (ℕ × Step)) (i : ℕ) (d : ℕ × Step)
    → i < length steps
    → core ≡ run m (reverse (take i steps))
    → new ≡ after_step core (get_or steps i d).0 (get_or steps i d).1
    → new ≡ run m (reverse (take (i + 1) steps))
unfolding run
one_more m core new steps i d within before step =
    let s : ℕ × Step = get_or steps i d in
    let more : reverse (take (i + 1) steps) ≡ s ∷ reverse (take i steps) = ap reverse
    (take_more steps i d within) ∙ reverse-append (take i steps) (s ∷ []) in
    step ∙ ap (λ (x : Machine). after_step x s.0 s.1) before ∙ sym (ap (run m) more)

pub loop-actor-init : goal.loop-actor-init
unfolding run
loop-actor-init c =
    record {
      after = c.in_ok-core.ensures.ok;
      entries = c.in_ok-core.ensures.entries;
      actors = c.in_ok-core.ensures.actors;
    }

pub loop-actor-preserved : goal.loop-actor-preserved
loop-actor-preserved c = record {
  after =
      one_more _ _ _ _ _ _ c.loop-actor-test.true c.loop-actor.invariant.after
      c.in_ok-try_step.ensures.after;
  entries = c.in_ok-try_step.ensures.entries ∙ c.loop-actor.invariant.entries;
  actors = c.in_ok-try_step.ensures.actors ∙ c.loop-actor.invariant.actors;
}
