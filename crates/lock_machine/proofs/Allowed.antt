-- What the code of a split and of a join may rely on where the step is allowed.
use Rattle.std.specs.Prelude.{is_none}
use Rattle.std.proofs.Common.{◌≡◌, ◌≢◌, ℕ, ◌<◌, ◌==◌, true, length, sym, ap, ◌∙◌, subst, Option, None, eq-eqb}
use Rattle.std.proofs.lemmas.Bool.{and_parts, false≢true, ltb-true, not-true}
use Rattle.lock_core.specs.declared.error.CoreError.{CoreError}
use Rattle.lock_core.specs.declared.step.Step.{Step}
use Rattle.lock_core.specs.declared.step.Step.TheVariants.{Split, Join}
use Rattle.lock_core.specs.Machine.{Machine, actor_at}
use Rattle.lock_core.specs.Steps.{may_act, refusal, is_allowed}
use Rattle.lock_core.proofs.Whole.{allowed_parts}

pub allowed_if : (m : Machine) (i : ℕ) (s : Step) → refusal m i s ≡ None → is_allowed m i s ≡ true
unfolding is_allowed
allowed_if m i s h = ap (λ (o : Option CoreError). is_none o) h

-- What an allowed split has: the actor is live, and the one that it makes live is in the machine.
pub record IsSplit (m : Machine) (i to : ℕ) : Type 0 where
  pub live : (actor_at m i).live ≡ true
  pub there : to < length m.actors

pub split_parts :
    (m : Machine) (i to : ℕ) (s : Step) → s ≡ Split to → is_allowed m i s ≡ true → IsSplit m i to
unfolding may_act
split_parts m i to s is may =
    let parts = and_parts _ _
    (allowed_parts m i (Split to) (subst (λ z. is_allowed m i z ≡ true) is may)).0 in
    record { live = parts.0; there = ltb-true to (length m.actors) (and_parts _ _ parts.1).0 }

-- What an allowed join has: both actors are live, and they aren't the same one.
pub record IsJoin (m : Machine) (i from : ℕ) : Type 0 where
  pub live : (actor_at m i).live ≡ true
  pub other : (actor_at m from).live ≡ true
  pub apart : from ≢ i

pub join_parts :
    (m : Machine) (i from : ℕ) (s : Step)
    → s ≡ Join from
    → is_allowed m i s ≡ true
    → IsJoin m i from
unfolding may_act
join_parts m i from s is may =
    let parts = and_parts _ _
    (allowed_parts m i (Join from) (subst (λ z. is_allowed m i z ≡ true) is may)).0 in
    let other = and_parts _ _ parts.1 in
    record {
      live = parts.0;
      other = other.0;
      apart = λ e. false≢true (sym (not-true (from == i) other.1) ∙ eq-eqb from i e);
    }
