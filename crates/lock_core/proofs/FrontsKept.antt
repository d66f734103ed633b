-- Fronts along every list of steps: no front of an actor is above the pair of the state that the
-- entry counts with.
use Rattle.std.specs.Prelude.{slice_get, if◌then◌else◌, All}
use Rattle.std.proofs.Common.{◌≡◌, ◌⊎◌, ℕ, zero, suc, ◌≢◌, ◌≤◌, true, false, List, [], ◌∷◌, length, replicate, set, inl, inr, ⊎_elim, refl, sym, ap, ◌∙◌, subst, arith, Option, Some, None}
use Rattle.std.proofs.lemmas.Bool.{cond_both}
use Rattle.entry_model.specs.State.{State}
use Rattle.entry_model.specs.declared.receipt.Receipt.{Receipt}
use Rattle.entry_model.specs.Receipt.{after_of}
use Rattle.entry_model.specs.History.{pair_of}
use Rattle.entry_model.specs.Fronts.{front_at, opening_fronts, fronts_after, larger, IsAhead}
use Rattle.entry_model.proofs.FrontLaws.{front_set, after_rises, larger_low}
use Rattle.lock_core.specs.declared.entry.Entry.{Entry}
use Rattle.lock_core.specs.declared.step.Step.{Step}
use Rattle.lock_core.specs.declared.step.Step.TheVariants.{Split, Join}
use Rattle.lock_core.specs.Words.{unheld_entry}
use Rattle.lock_core.specs.Machine.{Actor, Machine, nobody, newcomer, opening_machine, actor_at, entry_at}
use Rattle.lock_core.specs.declared.step_result.StepResult.{StepResult}
use Rattle.lock_core.specs.Steps.{fits_entry, entry_of, step_result_of, with_result, may_act, fits_phase, is_allowed, made_by, after_allowed_step, after_step}
use Rattle.lock_core.specs.Runs.{run}
use Rattle.lock_core.specs.ActorFronts.{fronts_of, fronts_raised_by, fronts_after_step, run_fronts}
use Rattle.lock_core.specs.Laws.{IsFair}
use Rattle.lock_core.proofs.Kept.{Kept}
use Rattle.lock_core.proofs.Lists.{some_same, none_some, at_set, at_mapped}
use Rattle.lock_core.proofs.Moves.{Tells, Change}
use Rattle.lock_core.proofs.Whole.{allowed_parts, step_change}
use Rattle.lock_core.proofs.Opening.{run_kept}

-- ---- lists of fronts
fronts_set :
    (fs : List (List ℕ)) (i j : ℕ) (f : List ℕ)
    → (fronts_of (set fs i f) j ≡ fronts_of fs j) ⊎ (fronts_of (set fs i f) j ≡ f)
fronts_set [] i j f = inl refl
fronts_set (x ∷ xs) zero zero f = inr refl
fronts_set (x ∷ xs) zero (suc j) f = inl refl
fronts_set (x ∷ xs) (suc i) zero f = inl refl
fronts_set (x ∷ xs) (suc i) (suc j) f = fronts_set xs i j f

-- ---- what is kept of fronts
-- No actor's front of an entry is above the pair of the state that the entry counts with.
abbrev pub AreLow : Machine → List (List ℕ) → Type 0
AreLow m fs =
    (j e : ℕ) (x : Entry)
    → slice_get m.entries e ≡ Some x
    → front_at (fronts_of fs j) e ≤ pair_of x.published

-- Another list of fronts for one actor.
set_low :
    (m : Machine) (fs : List (List ℕ)) (i : ℕ) (f : List ℕ)
    → AreLow m fs
    → ((e : ℕ) (x : Entry) → slice_get m.entries e ≡ Some x → front_at f e ≤ pair_of x.published)
    → AreLow m (set fs i f)
set_low m fs i f low new j e x at = by (fronts_set fs i j f) where
  by :
      (fronts_of (set fs i f) j ≡ fronts_of fs j) ⊎ (fronts_of (set fs i f) j ≡ f)
      → front_at (fronts_of (set fs i f) j) e ≤ pair_of x.published
  by (inl same) = subst (λ g. front_at g e ≤ pair_of x.published) (sym same) (low j e x at)
  by (inr is) = subst (λ g. front_at g e ≤ pair_of x.published) (sym is) (new e x at)

-- A step on an entry doesn't lower its pair.
pub pair_rises :
    (e : ℕ) (p : State) (made : Option Receipt) (q : State)
    → Tells e p made q
    → pair_of p ≤ pair_of q
pair_rises e p None q t = let s = ap pair_of t in omega arith
pair_rises e p (Some r) q t =
    let b = ap pair_of t.1 in let a = ap pair_of t.2 in let up = after_rises r in omega arith

module _ (m : Machine) (i e : ℕ) (x : Entry) (a : Actor) (t : StepResult) (z : Change m e i x a t)
    (m' : Machine) (entries : m'.entries ≡ set m.entries e t.entry) (fs : List (List ℕ))
    (low : AreLow m fs) where
  still_low : AreLow m' fs
  still_low j e' w at = ⊎_elim {C = front_at (fronts_of fs j) e' ≤ pair_of w.published}
      (λ (p : (e' ≡ e) × (t.entry ≡ w)).
      let was = low j e x z.here in
      let up = pair_rises e x.published t.made t.entry.published z.tells in
      let here = ap (front_at (fronts_of fs j)) p.0 in
      let new = ap (λ (v : Entry). pair_of v.published) p.1 in omega arith)
      (λ (p : (e' ≢ e) × (slice_get m.entries e' ≡ Some w)). low j e' w p.1)
      (at_set m.entries e e' t.entry w (subst (λ l. slice_get l e' ≡ Some w) entries at))

  here_low :
      (r : Receipt)
      → Tells e x.published (Some r) t.entry.published
      → (e' : ℕ) (w : Entry)
      → slice_get m'.entries e' ≡ Some w
      → front_at (fronts_after (fronts_of fs i) r) e' ≤ pair_of w.published
  here_low r tells e' w at = by (front_set (fronts_of fs i) r.entry (pair_of (after_of r)) e') where
    by :
        (front_at (fronts_after (fronts_of fs i) r) e' ≡ front_at (fronts_of fs i) e')
        ⊎ ((e' ≡ r.entry) × (front_at (fronts_after (fronts_of fs i) r) e' ≡ pair_of (after_of r)))
        → front_at (fronts_after (fronts_of fs i) r) e' ≤ pair_of w.published
    by (inl same) = let s = still_low i e' w at in omega arith
    by (inr new) = ⊎_elim {C = front_at (fronts_after (fronts_of fs i) r) e' ≤ pair_of w.published}
        (λ (p : (e' ≡ e) × (t.entry ≡ w)).
        let is = new.1 in
        let q = ap pair_of tells.2 in
        let v = ap (λ (v : Entry). pair_of v.published) p.1 in
        omega arith)
        (λ (p : (e' ≢ e) × (slice_get m.entries e' ≡ Some w)). absurd (p.0 (new.0 ∙ tells.0)))
        (at_set m.entries e e' t.entry w (subst (λ l. slice_get l e' ≡ Some w) entries at))

  raised_low :
      (made : Option Receipt)
      → Tells e x.published made t.entry.published
      → AreLow m' (fronts_raised_by fs i made)
  raised_low None tells = still_low
  raised_low (Some r) tells =
      set_low m' fs i (fronts_after (fronts_of fs i) r) still_low (here_low r tells)

-- ---- every step
module _ (opening : List State) (m : Machine) (log : List Receipt) (k : Kept opening m log)
    (fs : List (List ℕ)) (low : AreLow m fs) where
  result_low : (i : ℕ) (s : Step) → (actor_at m i).live ≡ true → fits_entry m i s ≡ true
      → AreLow (with_result m (entry_of (actor_at m i).phase s) i (step_result_of m i s))
      (fronts_raised_by fs i (step_result_of m i s).made)
  result_low i s live fit =
      let e : ℕ = entry_of (actor_at m i).phase s in
      let z = step_change opening m log k i s live fit in
      raised_low m i e (entry_at m e) (actor_at m i) (step_result_of m i s) z
      (with_result m e i (step_result_of m i s)) refl fs low (step_result_of m i s).made z.tells

  -- The machine and the fronts after an allowed step.
  stepped_low :
      (i : ℕ) (s : Step)
      → is_allowed m i s ≡ true
      → AreLow (after_allowed_step m i s) (fronts_after_step m fs i s)
  unfolding after_allowed_step fronts_after_step made_by may_act fits_phase
  stepped_low i (Split to) may =
      subst
      (λ b.
      AreLow (after_allowed_step m i (Split to))
      (if b then set fs to (fronts_of fs i) else fs)) (sym may)
      (set_low (after_allowed_step m i (Split to)) fs to (fronts_of fs i) low (low i))
  stepped_low i (Join from) may =
      subst
      (λ b.
      AreLow (after_allowed_step m i (Join from))
      (if b then set fs i (larger (fronts_of fs i) (fronts_of fs from)) else fs)) (sym may)
      (set_low (after_allowed_step m i (Join from)) fs i
      (larger (fronts_of fs i) (fronts_of fs from)) low
      (λ e x at.
      larger_low (fronts_of fs i) (fronts_of fs from) e (pair_of x.published) (low i e x at)
      (low from e x at)))
  stepped_low i s may =
      subst
      (λ b.
      AreLow (after_allowed_step m i s)
      (fronts_raised_by fs i (if b then (step_result_of m i s).made else None))) (sym may)
      (result_low i s (allowed_parts m i s may).0 (allowed_parts m i s may).2)

  -- A step that isn't allowed leaves them.
  refused_fronts : (i : ℕ) (s : Step) → is_allowed m i s ≡ false → fronts_after_step m fs i s ≡ fs
  unfolding fronts_after_step made_by
  refused_fronts i (Split to) not' = ap (λ b. if b then set fs to (fronts_of fs i) else fs) not'
  refused_fronts i (Join from) not' =
      ap (λ b. if b then set fs i (larger (fronts_of fs i) (fronts_of fs from)) else fs) not'
  refused_fronts i s not' =
      ap (λ b. fronts_raised_by fs i (if b then (step_result_of m i s).made else None)) not'

  pub moved_low : (i : ℕ) (s : Step) → AreLow (after_step m i s) (fronts_after_step m fs i s)
  unfolding after_step
  moved_low i s =
      cond_both (is_allowed m i s) (after_allowed_step m i s) m
      (λ m'. AreLow m' (fronts_after_step m fs i s)) (stepped_low i s)
      (λ not'. subst (AreLow m) (sym (refused_fronts i s not')) low)

  -- ---- the receipt of a step
  ahead : (i : ℕ) (s : Step) (r : Receipt) → (actor_at m i).live ≡ true → fits_entry m i s ≡ true
      → (step_result_of m i s).made ≡ Some r → IsAhead (fronts_of fs i) r
  ahead i s r live fit made =
      let e : ℕ = entry_of (actor_at m i).phase s in
      let x : Entry = entry_at m e in
      let z = step_change opening m log k i s live fit in
      let tells : Tells e x.published (Some r) (step_result_of m i s).entry.published = subst
      (λ o. Tells e x.published o (step_result_of m i s).entry.published) made z.tells in
      let below = low i e x z.here in
      let before = ap pair_of tells.1 in
      let here = ap (front_at (fronts_of fs i)) tells.0 in omega arith

  made_if :
      (i : ℕ) (s : Step) (r : Receipt)
      (may :
      (actor_at m i).live ≡ true
      → fits_entry m i s ≡ true
      → (step_result_of m i s).made ≡ Some r
      → IsAhead (fronts_of fs i) r)
      → (is_allowed m i s ≡ true → ((actor_at m i).live ≡ true) × (fits_entry m i s ≡ true))
      → (if is_allowed m i s then (step_result_of m i s).made else None) ≡ Some r
      → IsAhead (fronts_of fs i) r
  made_if i s r go parts =
      cond_both (is_allowed m i s) (step_result_of m i s).made None
      (λ o. o ≡ Some r → IsAhead (fronts_of fs i) r) (λ may h. go (parts may).0 (parts may).1 h)
      (λ _ h. absurd (none_some r h))

  pub made_ahead :
      (i : ℕ) (s : Step) (r : Receipt) → made_by m i s ≡ Some r → IsAhead (fronts_of fs i) r
  unfolding made_by may_act fits_phase
  made_ahead i (Split to) r h = absurd (none_some r h)
  made_ahead i (Join from) r h = absurd (none_some r h)
  made_ahead i s r h =
      made_if i s r (ahead i s r)
      (λ may. ((allowed_parts m i s may).0, (allowed_parts m i s may).2)) h

-- ---- every list of steps
copies_of :
    (n j : ℕ) (f : List ℕ) → (fronts_of (replicate n f) j ≡ f) ⊎ (fronts_of (replicate n f) j ≡ [])
copies_of zero j f = inr refl
copies_of (suc n) zero f = inl refl
copies_of (suc n) (suc j) f = copies_of n j f

pub opening_front :
    (states : List State) (e : ℕ) (s : State)
    → slice_get states e ≡ Some s
    → front_at (opening_fronts states) e ≡ pair_of s
opening_front [] e s h = absurd (none_some s h)
opening_front (t ∷ ts) zero s h = ap pair_of (some_same t s h)
opening_front (t ∷ ts) (suc e) s h = opening_front ts e s h

opened_low :
    (states : List State) (n : ℕ)
    → AreLow (opening_machine states n) (run_fronts (opening_machine states n) [])
unfolding opening_machine run_fronts
opened_low states n j e x at =
    by (copies_of (length (set (replicate n nobody) 0 (newcomer []))) j (opening_fronts states))
  where
    fs : List (List ℕ)
    fs = replicate (length (set (replicate n nobody) 0 (newcomer []))) (opening_fronts states)

    by :
        (fronts_of fs j ≡ opening_fronts states) ⊎ (fronts_of fs j ≡ [])
        → front_at (fronts_of fs j) e ≤ pair_of x.published
    by (inl is) =
        let o = at_mapped unheld_entry states e x at in
        let p = opening_front states e o.0 o.1 in
        let q = ap (λ (v : Entry). pair_of v.published) o.2 in
        let f = ap (λ g. front_at g e) is in omega arith
    by (inr none) = let f = ap (λ g. front_at g e) none in omega arith

module _ (states : List State) (fair : All IsFair states) (n : ℕ) where
  run_low :
      (steps : List (ℕ × Step))
      → AreLow (run (opening_machine states n) steps) (run_fronts (opening_machine states n) steps)
  unfolding run run_fronts
  run_low [] = opened_low states n
  run_low (s ∷ older) =
      let h = run_kept states fair n older in
      moved_low states (run (opening_machine states n) older) h.0 h.1
      (run_fronts (opening_machine states n) older) (run_low older) s.0 s.1

  pub receipts_ahead :
      (older : List (ℕ × Step)) (i : ℕ) (s : Step) (r : Receipt)
      → made_by (run (opening_machine states n) older) i s ≡ Some r
      → IsAhead (fronts_of (run_fronts (opening_machine states n) older) i) r
  receipts_ahead older i s r h =
      let k = run_kept states fair n older in
      made_ahead states (run (opening_machine states n) older) k.0 k.1
      (run_fronts (opening_machine states n) older) (run_low older) i s r h
