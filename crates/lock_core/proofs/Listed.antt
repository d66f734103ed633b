-- A receipt that a step makes is put after those that its actor has made.
use Rattle.std.specs.Prelude.{if◌then◌else◌}
use Rattle.std.proofs.Common.{◌≡◌, ◌⊎◌, inl, inr, ℕ, true, false, [], ◌∷◌, ◌++◌, ap, ◌∙◌, Some, None}
use Rattle.std.proofs.lemmas.Bool.{cases_Bool}
use Rattle.std.proofs.lemmas.List.{get_or-set_same}
use Rattle.std.proofs.lemmas.Option.{slice_get_within}
use Rattle.entry_model.specs.declared.receipt.Receipt.{Receipt}
use Rattle.lock_core.specs.declared.step.Step.{Step}
use Rattle.lock_core.specs.declared.step.Step.TheVariants.{Split, Join}
use Rattle.lock_core.specs.Machine.{Actor, Machine, nobody, actor_at}
use Rattle.lock_core.specs.declared.step_result.StepResult.{StepResult}
use Rattle.lock_core.specs.Steps.{actor_after, entry_of, step_result_of, with_result, may_act, is_allowed, made_by, after_allowed_step, after_step}
use Rattle.lock_core.proofs.Lists.{none_some}
use Rattle.lock_core.proofs.Whole.{allowed_parts, live_there}

result_listed :
    (m : Machine) (i e : ℕ) (t : StepResult) (r : Receipt)
    → (actor_at m i).live ≡ true
    → t.made ≡ Some r
    → (actor_at (with_result m e i t) i).receipts ≡ (actor_at m i).receipts ++ r ∷ []
result_listed m i e t r live made =
    let a : Actor = actor_at m i in
    let within = slice_get_within m.actors i a (live_there m.actors i live) in
    ap (λ (b : Actor). b.receipts)
    (get_or-set_same m.actors i (actor_after a t.phase t.made) nobody within)
    ∙ ap (λ o. (actor_after a t.phase o).receipts) made

made_listed :
    (m : Machine) (i e : ℕ) (s : Step) (r : Receipt)
    → (is_allowed m i s ≡ true → (actor_at m i).live ≡ true)
    → (if is_allowed m i s then (step_result_of m i s).made else None) ≡ Some r
    →
    (actor_at (if is_allowed m i s then with_result m e i (step_result_of m i s) else m)
    i).receipts
    ≡ (actor_at m i).receipts ++ r ∷ []
made_listed m i e s r live = at (cases_Bool (is_allowed m i s)) where
  at :
      (is_allowed m i s ≡ true) ⊎ (is_allowed m i s ≡ false)
      → (if is_allowed m i s then (step_result_of m i s).made else None) ≡ Some r
      →
      (actor_at (if is_allowed m i s then with_result m e i (step_result_of m i s) else m)
      i).receipts
      ≡ (actor_at m i).receipts ++ r ∷ []
  at (inl may) h = rw may (result_listed m i e (step_result_of m i s) r (live may) (rw may at h))
  at (inr not') h = absurd (none_some r (rw not' at h))

pub receipt_listed :
    (m : Machine) (i : ℕ) (s : Step) (r : Receipt)
    → made_by m i s ≡ Some r
    → (actor_at (after_step m i s) i).receipts ≡ (actor_at m i).receipts ++ r ∷ []
unfolding made_by after_step after_allowed_step may_act
receipt_listed m i (Split to) r h = absurd (none_some r h)
receipt_listed m i (Join from) r h = absurd (none_some r h)
receipt_listed m i s r h =
    made_listed m i (entry_of (actor_at m i).phase s) s r (λ may. (allowed_parts m i s may).0) h
