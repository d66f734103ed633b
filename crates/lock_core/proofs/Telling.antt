-- What a step that is allowed leaves, by its kind.
use Rattle.std.proofs.Common.{◌≡◌, ℕ, true, refl, sym, ap}
use Rattle.std.specs.Prelude.{if◌then◌else◌}
use Rattle.lock_core.specs.declared.step.Step.{Step}
use Rattle.lock_core.specs.declared.step.Step.TheVariants.{Split, Join}
use Rattle.lock_core.specs.Machine.{Machine, actor_at}
use Rattle.lock_core.specs.Steps.{fits_entry, entry_of, step_result_of, with_result, split_off, join_in, may_act, fits_phase, is_allowed, after_allowed_step, after_step}
use Rattle.lock_core.proofs.Whole.{allowed_parts}

-- The step is on an entry.
pub record IsTurn (m : Machine) (i : ℕ) (s : Step) : Type 0 where
  pub live : (actor_at m i).live ≡ true
  pub fitting : fits_entry m i s ≡ true
  pub stepped_is :
      after_allowed_step m i s
      ≡ with_result m (entry_of (actor_at m i).phase s) i (step_result_of m i s)

pub result_parts :
    (m : Machine) (i : ℕ) (s : Step)
    → ((to : ℕ) → s ≡ Split to → ⊥)
    → ((from : ℕ) → s ≡ Join from → ⊥)
    → is_allowed m i s ≡ true
    → IsTurn m i s
unfolding may_act fits_phase after_allowed_step
result_parts m i (Split to) no_split no_join may = absurd (no_split to refl)
result_parts m i (Join from) no_split no_join may = absurd (no_join from refl)
result_parts m i s no_split no_join may =
    record {
      live = (allowed_parts m i s may).0;
      fitting = (allowed_parts m i s may).2;
      stepped_is = refl;
    }

pub stepped_split :
    (m : Machine) (i to : ℕ) (s : Step) → s ≡ Split to → split_off m i to ≡ after_allowed_step m i s
unfolding after_allowed_step
stepped_split m i to s is = ap (after_allowed_step m i) (sym is)

pub stepped_join :
    (m : Machine) (i from : ℕ) (s : Step)
    → s ≡ Join from
    → join_in m i from ≡ after_allowed_step m i s
unfolding after_allowed_step
stepped_join m i from s is = ap (after_allowed_step m i) (sym is)

pub moved_if :
    (m : Machine) (i : ℕ) (s : Step)
    → is_allowed m i s ≡ true
    → after_allowed_step m i s ≡ after_step m i s
unfolding after_step
moved_if m i s may = ap (λ b. if b then after_allowed_step m i s else m) (sym may)
