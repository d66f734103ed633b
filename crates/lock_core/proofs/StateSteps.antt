-- What a step does to the states that entries count with.
use Rattle.std.specs.Prelude.{slice_get, if◌then◌else◌, All}
use Rattle.std.proofs.Common.{◌≡◌, ◌⊎◌, inl, inr, ℕ, zero, suc, ◌<◌, Bool, true, false, List, [], ◌∷◌, map, length, set, refl, sym, ap, ◌∙◌, subst, Option, Some, None, MatchOption}
use Rattle.std.proofs.lemmas.List.{map-set}
use Rattle.std.proofs.lemmas.Bool.{cases_Bool}
use Rattle.std.proofs.lemmas.Option.{slice_get_within, get_or_from_slice_get}
use Rattle.entry_model.specs.State.{State, empty_state}
use Rattle.entry_model.specs.declared.receipt.Receipt.{Receipt}
use Rattle.entry_model.specs.Run.{IsStep, state_at}
use Rattle.lock_core.specs.declared.entry.Entry.{Entry}
use Rattle.lock_core.specs.declared.step.Step.{Step}
use Rattle.lock_core.specs.declared.step.Step.TheVariants.{Split, Join}
use Rattle.lock_core.specs.Machine.{Machine, opening_machine, actor_at, entry_at}
use Rattle.lock_core.specs.Steps.{fits_entry, entry_of, step_result_of, with_result, may_act, fits_phase, is_allowed, made_by, after_allowed_step, after_step}
use Rattle.lock_core.specs.Runs.{run}
use Rattle.lock_core.specs.Laws.{IsFair, published_states}
use Rattle.lock_core.proofs.Kept.{Kept}
use Rattle.lock_core.proofs.Lists.{set_again}
use Rattle.lock_core.proofs.Moves.{Tells}
use Rattle.lock_core.proofs.Whole.{allowed_parts, step_change}
use Rattle.lock_core.proofs.Opening.{run_kept}

abbrev states_of : List Entry → List State
states_of xs = map (λ (x : Entry). x.published) xs

set_state :
    (xs : List Entry) (e : ℕ) (y : Entry)
    → states_of (set xs e y) ≡ set (states_of xs) e y.published
set_state xs e y = map-set (λ (x : Entry). x.published) xs e y

state_there :
    (xs : List Entry) (e : ℕ) (x : Entry)
    → slice_get xs e ≡ Some x
    → slice_get (states_of xs) e ≡ Some x.published
state_there [] e x h = cc
state_there (z ∷ zs) zero x h = cc
state_there (z ∷ zs) (suc e) x h = state_there zs e x h

-- What a step on an entry does to the list of states.
abbrev IsTold : List State → Option Receipt → List State → Type 0
IsTold old made new = MatchOption made (new ≡ old) (λ r. IsStep old r new)

told_by :
    (xs : List Entry) (e : ℕ) (x : Entry) (y : Entry) (made : Option Receipt)
    → slice_get xs e ≡ Some x
    → Tells e x.published made y.published
    → IsTold (states_of xs) made (states_of (set xs e y))
told_by xs e x y None at tells =
    set_state xs e y
    ∙ ap (λ s. set (states_of xs) e s) tells
    ∙ set_again (states_of xs) e x.published (state_there xs e x at)
told_by xs e x y (Some r) at tells =
    let there : slice_get (states_of xs) e ≡ Some x.published = state_there xs e x at in record {
      in_table =
          subst (λ n. n < length (states_of xs)) (sym tells.0)
          (slice_get_within (states_of xs) e x.published there);
      before =
          tells.1
          ∙ sym (get_or_from_slice_get (states_of xs) e x.published (empty_state 0) there)
          ∙ ap (state_at (states_of xs)) (sym tells.0);
      after = set_state xs e y ∙ (λ k. set (states_of xs) (sym tells.0 k) (sym tells.2 k));
    }

module _ (opening : List State) (m : Machine) (log : List Receipt) (k : Kept opening m log) (i : ℕ)
  where
    result_told :
        (s : Step)
        → (actor_at m i).live ≡ true
        → fits_entry m i s ≡ true
        → IsTold (published_states m) (step_result_of m i s).made
        (published_states
        (with_result m (entry_of (actor_at m i).phase s) i (step_result_of m i s)))
    result_told s live fit =
        let e : ℕ = entry_of (actor_at m i).phase s in
        let z = step_change opening m log k i s live fit in
        told_by m.entries e (entry_at m e) (step_result_of m i s).entry (step_result_of m i s).made
        z.here z.tells

    result_or_not :
        (s : Step)
        → (is_allowed m i s ≡ true → ((actor_at m i).live ≡ true) × (fits_entry m i s ≡ true))
        → IsTold (published_states m)
        (if is_allowed m i s then (step_result_of m i s).made else None)
        (published_states
        (if is_allowed m i s then with_result m (entry_of (actor_at m i).phase s) i
        (step_result_of m i s) else m))
    result_or_not s parts = by (cases_Bool (is_allowed m i s)) where
      by :
          (is_allowed m i s ≡ true) ⊎ (is_allowed m i s ≡ false)
          → IsTold (published_states m)
          (if is_allowed m i s then (step_result_of m i s).made else None)
          (published_states
          (if is_allowed m i s then with_result m (entry_of (actor_at m i).phase s) i
          (step_result_of m i s) else m))
      by (inl may) = rw may (result_told s (parts may).0 (parts may).1)
      by (inr not') = rw not' refl

    same_entries :
        (m' : Machine) (b : Bool)
        → m'.entries ≡ m.entries
        → published_states (if b then m' else m) ≡ published_states m
    same_entries m' true same = ap states_of same
    same_entries m' false same = refl

    pub step_told :
        (s : Step)
        → IsTold (published_states m) (made_by m i s) (published_states (after_step m i s))
    unfolding made_by after_step after_allowed_step may_act fits_phase
    step_told (Split to) =
        same_entries (after_allowed_step m i (Split to)) (is_allowed m i (Split to)) refl
    step_told (Join from) =
        same_entries (after_allowed_step m i (Join from)) (is_allowed m i (Join from)) refl
    step_told s =
        result_or_not s (λ may. ((allowed_parts m i s may).0, (allowed_parts m i s may).2))

pub run_told :
    (states : List State) (fair : All IsFair states) (n : ℕ) (older : List (ℕ × Step)) (i : ℕ)
    (s : Step)
    → IsTold (published_states (run (opening_machine states n) older))
    (made_by (run (opening_machine states n) older) i s)
    (published_states (after_step (run (opening_machine states n) older) i s))
run_told states fair n older i s =
    let k = run_kept states fair n older in
    step_told states (run (opening_machine states n) older) k.0 k.1 i s
