-- Sorted by place, the receipts of a section are a run on the states that it opens on; and such a
-- run fixes each state before.
use Rattle.std.proofs.Common.{◌≡◌, ℕ, ◌<◌, ◌≤◌, List, [], ◌∷◌, true, false, ap, sym, ◌∙◌, refl, subst, ◌⊎◌, inl, inr, map, length, length-set, eqb}
use Rattle.std.specs.Prelude.{slice_set}
use Rattle.std.specs.List.{AllByRecursion}
use Rattle.std.proofs.lemmas.Bool.{cases_Bool}
use Rattle.entry_model.specs.State.{State}
use Rattle.entry_model.specs.declared.receipt.Receipt.{Receipt}
use Rattle.entry_model.specs.Run.{state_at, states_after, IsRun}
use Rattle.entry_model.specs.History.{IsLegal, history, by_place, put_in, place, Regrouped}
use Rattle.entry_model.proofs.Regroup.{history_regrouped}
use Rattle.entry_model.proofs.RunHistory.{run_history}
use Rattle.run_model.proofs.SectionGood.{each_regrouped}
use Rattle.run_model.proofs.OneProcessor.{chain_run, precedes_level, of_entry}
use Rattle.history_check.specs.Replay.{before_each}
use Rattle.history_check.specs.Steps.{step_op, unless_worn, next_by, step_of, after_step, found_states, ending_states}
use Rattle.history_check.proofs.NextStates.{step_next}

-- ---- sorted lists
abbrev NotBefore : Receipt → List Receipt → Type 0
NotBefore x ys = AllByRecursion (λ (y : Receipt). place x ≤ place y) ys

-- Each receipt's place is at most that of each receipt after it.
abbrev pub Ascending : List Receipt → Type 0
Ascending [] = Unit {0}
Ascending (x ∷ xs) = NotBefore x xs × Ascending xs

put_first : (x : Receipt) (xs : List Receipt) → NotBefore x xs → put_in x xs ≡ x ∷ xs
put_first x [] h = refl
put_first x (y ∷ ys) h = rw (precedes_level x y h.0) refl

sorted_is : (xs : List Receipt) → Ascending xs → by_place xs ≡ xs
sorted_is [] h = refl
sorted_is (x ∷ xs) h = ap (put_in x) (sorted_is xs h.1) ∙ put_first x xs h.0

not_before_of :
    (e : ℕ) (x : Receipt) (ys : List Receipt) → NotBefore x ys → NotBefore x (of_entry e ys)
not_before_of e x [] h = tt
not_before_of e x (y ∷ ys) h = at (cases_Bool (eqb y.entry e)) (not_before_of e x ys h.1) where
  at :
      (eqb y.entry e ≡ true) ⊎ (eqb y.entry e ≡ false)
      → NotBefore x (of_entry e ys)
      → NotBefore x (of_entry e (y ∷ ys))
  at (inl own) rest = rw own (h.0, rest)
  at (inr other) rest = rw other rest

ascending_of : (e : ℕ) (xs : List Receipt) → Ascending xs → Ascending (of_entry e xs)
ascending_of e [] h = tt
ascending_of e (x ∷ xs) h = at (cases_Bool (eqb x.entry e)) (ascending_of e xs h.1) where
  at :
      (eqb x.entry e ≡ true) ⊎ (eqb x.entry e ≡ false)
      → Ascending (of_entry e xs)
      → Ascending (of_entry e (x ∷ xs))
  at (inl own) rest = rw own (not_before_of e x xs h.0, rest)
  at (inr other) rest = rw other rest

-- ---- legal histories, sorted, are a run; and a run has legal histories, however its receipts are
-- listed
pub sorted_run :
    (a b : List State) (rs ms : List Receipt)
    → Regrouped rs ms
    → Ascending ms
    → length b ≡ length a
    → AllByRecursion (λ (r : Receipt). r.entry < length a) rs
    → ((e : ℕ) → e < length a → IsLegal (state_at a e) (history e rs) (state_at b e))
    → IsRun a ms b
sorted_run a b rs ms same up size within legal =
    chain_run a b ms size (each_regrouped (λ (r : Receipt). r.entry < length a) same within)
    (λ e low.
    subst (λ l. IsLegal (state_at a e) l (state_at b e))
    (sorted_is (of_entry e ms) (ascending_of e ms up))
    (history_regrouped e (state_at a e) (state_at b e) rs ms same (legal e low)))

pub run_legal :
    (a b : List State) (ms rs : List Receipt)
    → Regrouped ms rs
    → IsRun a ms b
    → (e : ℕ)
    → IsLegal (state_at a e) (history e rs) (state_at b e)
run_legal a b ms rs same run e =
    history_regrouped e (state_at a e) (state_at b e) ms rs same (run_history e a b ms run)

-- ---- what a run fixes
receipt_step :
    (a : List State) (r : Receipt)
    → r.before ≡ state_at a r.entry
    → states_after a r ≡ after_step a (step_of r)
receipt_step a r h =
    ap (slice_set a r.entry)
    (step_next r ∙ ap (next_by (unless_worn r.answer (step_op r.op)) r.answer) h)

pub run_fixes :
    (a b : List State) (rs : List Receipt)
    → IsRun a rs b
    → (before_each rs ≡ found_states a (map step_of rs)) × (b ≡ ending_states a (map step_of rs))
run_fixes a b [] h = (refl, h)
run_fixes a b (r ∷ rs) h =
    let next : h.0 ≡ after_step a (step_of r) = h.1.after ∙ receipt_step a r h.1.before in
    let rest = run_fixes (after_step a (step_of r)) b rs (subst (λ s. IsRun s rs b) next h.2) in
    ((λ i. h.1.before i ∷ rest.0 i), rest.1)

head_state : (s t : State) (xs ys : List State) → s ∷ xs ≡ t ∷ ys → s ≡ t
head_state s t xs ys e = cc

tail_states : (s t : State) (xs ys : List State) → s ∷ xs ≡ t ∷ ys → xs ≡ ys
tail_states s t xs ys e = cc

pub fixed_run :
    (a : List State) (rs : List Receipt)
    → AllByRecursion (λ (r : Receipt). r.entry < length a) rs
    → before_each rs ≡ found_states a (map step_of rs)
    → IsRun a rs (ending_states a (map step_of rs))
fixed_run a [] within h = refl
fixed_run a (r ∷ rs) within h =
    let here : r.before ≡ state_at a r.entry = head_state r.before (state_at a r.entry)
    (before_each rs) (found_states (after_step a (step_of r)) (map step_of rs)) h in
    let rest : before_each rs ≡ found_states (after_step a (step_of r)) (map step_of rs) =
    tail_states r.before (state_at a r.entry) (before_each rs)
    (found_states (after_step a (step_of r)) (map step_of rs)) h in
    let size : length (after_step a (step_of r)) ≡ length a = length-set a r.entry _ in (
      after_step a (step_of r),
      record { in_table = within.0; before = here; after = sym (receipt_step a r here) },
      fixed_run (after_step a (step_of r)) rs
          (subst (λ n. AllByRecursion (λ (r : Receipt). r.entry < n) rs) (sym size) within.1) rest,
    )
