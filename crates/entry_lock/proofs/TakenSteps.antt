-- A pass knows its own steps.
use Rattle.std.specs.Prelude.{if◌then◌else◌}
use Rattle.std.proofs.Common.{◌≡◌, ◌≢◌, ℕ, ◌==◌, Bool, false, List, [], ◌∷◌, set, ⊎_elim, refl, sym, ap, ◌∙◌, subst, eq-eqb, ne_eqb}
use mathlib.Core.Option.{some}
use Rattle.atomic_table.specs.Table.{State as TableState}
use Rattle.atomic_table.proofs.Lists.{at_set as view_set}
use Rattle.lock_core.specs.declared.step.Step.{Step}
use Rattle.lock_core.specs.declared.step.Step.TheVariants.{Split, Join}
use Rattle.entry_lock.specs.declared.rule.View.{View}
use Rattle.entry_lock.specs.declared.rule.Opening.{Opening}
use Rattle.entry_lock.specs.OwnSteps.{starts, steps_by}
use Rattle.entry_lock.specs.Rule.{IsHead, ShowsSteps, machine_after}
use Rattle.entry_lock.specs.Laws.{IsOnEntry}
use Rattle.entry_lock.proofs.ViewLists.{head_at}
use Rattle.entry_lock.proofs.Frame.{apart_from}
use lib.ListN.{get_elem?}

starts_none : (n : ℕ) (step : Step) → IsOnEntry step → starts n step ≡ false
starts_none n (Split to) on = absurd (on.no_split to refl)
starts_none n (Join from) on = absurd (on.no_join from refl)
starts_none n step on = refl

-- A step that makes another actor live, or none.
pub own_step :
    (n : ℕ) (step : Step) (steps : List (ℕ × Step))
    → starts n step ≡ false
    → steps_by n ((n, step) ∷ steps) ≡ step ∷ steps_by n steps
own_step n step steps off =
    ap
    (λ (b : Bool).
    if b then [] else (if n == n then step ∷ steps_by n steps else steps_by n steps)) off
    ∙ ap (λ (b : Bool). if b then step ∷ steps_by n steps else steps_by n steps) (eq-eqb n n refl)

pub other_step :
    (k n : ℕ) (step : Step) (steps : List (ℕ × Step))
    → n ≢ k
    → starts k step ≡ false
    → steps_by k ((n, step) ∷ steps) ≡ steps_by k steps
other_step k n step steps other off =
    ap
    (λ (b : Bool).
    if b then [] else (if n == k then step ∷ steps_by k steps else steps_by k steps)) off
    ∙ ap (λ (b : Bool). if b then step ∷ steps_by k steps else steps_by k steps) (ne_eqb n k other)

pub head_cons : (l : List ℕ) (k : ℕ) → IsHead l k → (ks : List ℕ) × (l ≡ k ∷ ks)
head_cons [] k h = absurd h
head_cons (x ∷ xs) k h = (xs, ap (λ z. z ∷ xs) h)

-- Each view with numbers has its actor's steps.
abbrev pub Own : List (ℕ × Step) → List View → Type 0
Own steps known =
    (j k : ℕ) (u : View)
    → get_elem? known j ≡ some u
    → IsHead u.numbers k
    → u.taken ≡ steps_by k steps

module _ (key : Opening) (s : TableState ℕ View) (steps : List (ℕ × Step))
    (h : ShowsSteps key steps s.words s.views) (id n : ℕ) (ns : List ℕ) (v w : View)
    (at : get_elem? s.views id ≡ some v) (mine : v.numbers ≡ n ∷ ns) (same : w.numbers ≡ v.numbers)
  where
    mine_at : (k : ℕ) (u : View) → w ≡ u → IsHead u.numbers k → n ≡ k
    mine_at k u is head =
        head_at v.numbers ns n k mine
        (subst (λ l. IsHead l k) (ap (λ (z : View). z.numbers) (sym is) ∙ same) head)

    had : v.taken ≡ steps_by n steps
    had = h.own id n v at (subst (λ l. IsHead l n) (sym mine) refl)

    -- After a step on an entry.
    pub own_after :
        (step : Step)
        → IsOnEntry step
        → w.taken ≡ step ∷ v.taken
        → Own ((n, step) ∷ steps) (set s.views id w)
    own_after step on taken j k u is head = ⊎_elim {C = u.taken ≡ steps_by k ((n, step) ∷ steps)}
        (λ (p : (j ≡ id) × (w ≡ u)).
        ap (λ (z : View). z.taken) (sym p.1) ∙ taken ∙ ap (λ l. step ∷ l) had
        ∙ sym (own_step n step steps (starts_none n step on))
        ∙ ap (λ q. steps_by q ((n, step) ∷ steps)) (mine_at k u p.1 head))
        (λ (p : (j ≢ id) × (get_elem? s.views j ≡ some u)).
        let c = head_cons u.numbers k head in
        let other :
        k ≢ n = apart_from key (machine_after key steps) s h.shows j id n k u v ns c.0 p.0
        at p.1 mine c.1 in
        h.own j k u p.1 head
        ∙ sym (other_step k n step steps (λ q. other (sym q)) (starts_none k step on)))
        (view_set s.views id j w u is)

    -- After what is no step.
    pub own_still : w.taken ≡ v.taken → Own steps (set s.views id w)
    own_still taken j k u is head = ⊎_elim {C = u.taken ≡ steps_by k steps}
        (λ (p : (j ≡ id) × (w ≡ u)).
        ap (λ (z : View). z.taken) (sym p.1)
        ∙ taken
        ∙ had
        ∙ ap (λ q. steps_by q steps) (mine_at k u p.1 head))
        (λ (p : (j ≢ id) × (get_elem? s.views j ≡ some u)). h.own j k u p.1 head)
        (view_set s.views id j w u is)
