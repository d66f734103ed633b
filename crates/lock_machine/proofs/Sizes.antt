-- A step leaves as many entries and actors as there were.
use Rattle.std.specs.Prelude.{OnOk, OnErr, Ok, Err}
use Rattle.std.proofs.Common.{◌≡◌, ℕ, length, length-set, refl, sym, ◌∙◌, subst}
use Rattle.std.specs.declared.result.Result.{Result}
use Rattle.std.proofs.lemmas.Bool.{cond_both}
use Rattle.lock_core.specs.declared.error.CoreError.{CoreError}
use Rattle.lock_core.specs.declared.step.Step.{Step}
use Rattle.lock_core.specs.declared.step.Step.TheVariants.{Split, Join}
use Rattle.lock_core.specs.Machine.{Machine}
use Rattle.lock_core.specs.Steps.{is_allowed, after_allowed_step, after_step}

abbrev SameSize : Machine → Machine → Type 0
SameSize m m' = (length m'.entries ≡ length m.entries) × (length m'.actors ≡ length m.actors)

stepped_size : (m : Machine) (i : ℕ) (s : Step) → SameSize m (after_allowed_step m i s)
unfolding after_allowed_step
stepped_size m i (Split to) = (refl, length-set m.actors to _)
stepped_size m i (Join from) = (refl, length-set _ from _ ∙ length-set m.actors i _)
stepped_size m i s = (length-set m.entries _ _, length-set m.actors i _)

moved_size : (m : Machine) (i : ℕ) (s : Step) → SameSize m (after_step m i s)
unfolding after_step
moved_size m i s =
    cond_both (is_allowed m i s) (after_allowed_step m i s) m (SameSize m) (λ _. stepped_size m i s)
    (λ _. (refl, refl))

pub ended_size :
    (m m' : Machine) (i : ℕ) (s : Step) (r : Result (Unit {0}) CoreError)
    → OnOk r (m' ≡ after_step m i s)
    → OnErr r (m' ≡ m)
    → SameSize m m'
ended_size m m' i s (Ok v) done none = subst (SameSize m) (sym done) (moved_size m i s)
ended_size m m' i s (Err e) done none = subst (SameSize m) (sym none) (refl, refl)
