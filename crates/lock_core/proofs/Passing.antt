-- Splits and joins keep what is kept.
use Rattle.std.specs.Prelude.{slice_get}
use Rattle.std.proofs.Common.{◌≡◌, ◌≢◌, ◌⊎◌, ℕ, true, false, List, ◌++◌, set, inl, inr, ⊎_elim, refl, sym, ap, ◌∙◌, subst, Some}
use Rattle.std.proofs.lemmas.Bool.{false≢true}
use Rattle.std.proofs.lemmas.List.{set-set, set_comm}
use Rattle.entry_model.specs.State.{State}
use Rattle.entry_model.specs.declared.receipt.Receipt.{Receipt}
use Rattle.entry_model.specs.History.{Regrouped, twice}
use Rattle.entry_model.proofs.Regroup.{regrouped_self, regrouped_back}
use Rattle.lock_core.specs.declared.phase.Phase.TheVariants.{Idle}
use Rattle.lock_core.specs.declared.sighting.Sighting.{Sighting}
use Rattle.lock_core.specs.Machine.{Actor, Machine, nobody, newcomer, HoldsEntry}
use Rattle.lock_core.specs.Steps.{joined_actor}
use Rattle.lock_core.specs.Runs.{receipts_of}
use Rattle.lock_core.proofs.Kept.{IsOn, PhaseOk, Kept}
use Rattle.lock_core.proofs.Moves.{same_receipts, set_receipts}
use Rattle.lock_core.proofs.Lists.{at_set, set_else, set_found, set_again, same_at, none_some, in_append}

-- The machine with other actors.
abbrev pub with_actors : Machine → List Actor → Machine
with_actors m actors = record m { actors = actors }

-- The line is one of some actor's list.
abbrev IsAnyones : List Actor → Sighting → Type 0
IsAnyones actors l =
    (j : ℕ) × (n : ℕ) × (b : Actor) × (slice_get actors j ≡ Some b) × (slice_get b.lines n ≡ Some l)

module _ (opening : List State) (m : Machine) (log : List Receipt) (k : Kept opening m log) where
  -- Idle actors change, and no other.
  pub idle_kept :
      (actors : List Actor)
      →
      ((j : ℕ) (b : Actor)
      → slice_get actors j ≡ Some b
      → (b.phase ≡ Idle) ⊎ (slice_get m.actors j ≡ Some b))
      →
      ((j e : ℕ) (b : Actor)
      → slice_get m.actors j ≡ Some b
      → HoldsEntry e b.phase
      → slice_get actors j ≡ Some b)
      → ((j : ℕ) (b : Actor) → slice_get actors j ≡ Some b → b.live ≡ false → b ≡ nobody)
      →
      ((i n : ℕ) (a : Actor) (l : Sighting)
      → slice_get actors i ≡ Some a
      → slice_get a.lines n ≡ Some l
      → IsAnyones m.actors l)
      → Regrouped (receipts_of m.actors) (receipts_of actors)
      → Kept opening (with_actors m actors) log
  idle_kept actors news olds dead from same = record {
    opens = k.opens;
    size = k.size;
    quiet = dead;
    entries = k.entries;
    actors =
        λ i e a x is on at.
        (⊎_elim {C = PhaseOk a.phase x} (λ (idle : a.phase ≡ Idle). absurd (subst (IsOn e) idle on))
        (λ (old : slice_get m.actors i ≡ Some a). k.actors i e a x old on at) (news i a is));
    held =
        λ e x at locked. (let h = k.held e x at locked in (h.0, h.1, olds h.0 e h.1 h.2 h.3, h.3));
    one =
        λ e i j a b is is' h h'.
        (⊎_elim {C = i ≡ j} (λ (idle : a.phase ≡ Idle). absurd (subst (HoldsEntry e) idle h))
        (λ (old : slice_get m.actors i ≡ Some a).
        ⊎_elim {C = i ≡ j} (λ (idle : b.phase ≡ Idle). absurd (subst (HoldsEntry e) idle h'))
        (λ (old' : slice_get m.actors j ≡ Some b). k.one e i j a b old old' h h')
        (news j b is')) (news i a is));
    lines =
        λ i n a l x is on at. (let o = from i n a l is on in k.lines o.0 o.1 o.2 l x o.3 o.4 at);
    since = k.since;
    chain = k.chain;
    listed = twice k.listed same;
  }

  pub split_kept :
      (i to : ℕ) (a b : Actor)
      → slice_get m.actors i ≡ Some a
      → slice_get m.actors to ≡ Some b
      → b.live ≡ false
      → Kept opening (with_actors m (set m.actors to (newcomer a.lines))) log
  split_kept i to a b me at dead =
      let was : slice_get m.actors to ≡ Some nobody = at ∙ ap (λ (z : Actor). Some z)
      (k.quiet to b at dead) in
      let child : Actor = newcomer a.lines in
      idle_kept (set m.actors to child)
      (λ j d is.
      (⊎_elim {C = (d.phase ≡ Idle) ⊎ (slice_get m.actors j ≡ Some d)}
      (λ (p : (j ≡ to) × (child ≡ d)). inl (ap (λ (z : Actor). z.phase) (sym p.1)))
      (λ (p : (j ≢ to) × (slice_get m.actors j ≡ Some d)). inr p.1)
      (at_set m.actors to j child d is)))
      (λ j e d is h.
      (let other : j ≢ to = λ s. subst (λ (z : Actor). HoldsEntry e z.phase)
      (same_at m.actors to d nobody (subst (λ n. slice_get m.actors n ≡ Some d) s is) was) h
      in
      set_else m.actors to j child other ∙ is))
      (λ j d is none.
      (⊎_elim {C = d ≡ nobody}
      (λ (p : (j ≡ to) × (child ≡ d)).
      absurd (false≢true (sym none ∙ ap (λ (z : Actor). z.live) (sym p.1))))
      (λ (p : (j ≢ to) × (slice_get m.actors j ≡ Some d)). k.quiet j d p.1 none)
      (at_set m.actors to j child d is)))
      (λ j n d l is on.
      (⊎_elim {C = IsAnyones m.actors l}
      (λ (p : (j ≡ to) × (child ≡ d)).
      (i, n, a, me, subst (λ (z : Actor). slice_get z.lines n ≡ Some l) (sym p.1) on))
      (λ (p : (j ≢ to) × (slice_get m.actors j ≡ Some d)). (j, n, d, p.1, on))
      (at_set m.actors to j child d is)))
      (same_receipts m.actors to nobody child was refl)

  joined_receipts :
      (i from : ℕ) (a b : Actor)
      → slice_get m.actors i ≡ Some a
      → slice_get m.actors from ≡ Some b
      → from ≢ i
      → Regrouped (receipts_of m.actors)
      (receipts_of (set (set m.actors i (joined_actor a b)) from nobody))
  joined_receipts i from a b me at other =
      let less : List Actor = set m.actors from nobody in
      let gone : slice_get less from ≡ Some nobody = set_found m.actors from b nobody at in
      let still : slice_get less i ≡ Some a = set_else m.actors from i nobody (λ e. other (sym e)) ∙
      me in
      let back : set less from b ≡ m.actors = set-set m.actors from nobody b ∙ set_again m.actors
      from b at in
      let before : Regrouped (receipts_of less ++ b.receipts) (receipts_of m.actors) = subst
      (λ l. Regrouped (receipts_of less ++ b.receipts) (receipts_of l)) back
      (set_receipts less from nobody b b.receipts gone (regrouped_self b.receipts)) in
      let after : Regrouped (receipts_of less ++ b.receipts)
      (receipts_of (set less i (joined_actor a b))) = set_receipts less i a (joined_actor a b)
      b.receipts still (regrouped_self (a.receipts ++ b.receipts)) in
      subst (λ l. Regrouped (receipts_of m.actors) (receipts_of l))
      (set_comm m.actors from i nobody (joined_actor a b) other)
      (twice (regrouped_back before) after)

  pub join_kept :
      (i from : ℕ) (a b : Actor)
      → slice_get m.actors i ≡ Some a
      → a.live ≡ true
      → a.phase ≡ Idle
      → slice_get m.actors from ≡ Some b
      → from ≢ i
      → b.phase ≡ Idle
      → Kept opening (with_actors m (set (set m.actors i (joined_actor a b)) from nobody)) log
  join_kept i from a b me live idle at other idle' =
      let mid : List Actor = set m.actors i (joined_actor a b) in
      idle_kept (set mid from nobody)
      (λ j d is.
      (⊎_elim {C = (d.phase ≡ Idle) ⊎ (slice_get m.actors j ≡ Some d)}
      (λ (p : (j ≡ from) × (nobody ≡ d)). inl (ap (λ (z : Actor). z.phase) (sym p.1)))
      (λ (p : (j ≢ from) × (slice_get mid j ≡ Some d)).
      ⊎_elim {C = (d.phase ≡ Idle) ⊎ (slice_get m.actors j ≡ Some d)}
      (λ (q : (j ≡ i) × (joined_actor a b ≡ d)).
      inl (ap (λ (z : Actor). z.phase) (sym q.1) ∙ idle))
      (λ (q : (j ≢ i) × (slice_get m.actors j ≡ Some d)). inr q.1)
      (at_set m.actors i j (joined_actor a b) d p.1)) (at_set mid from j nobody d is)))
      (λ j e d is h. (
      let off : j ≢ from = λ s. subst (HoldsEntry e) idle'
      (subst (λ (z : Actor). HoldsEntry e z.phase)
      (same_at m.actors from d b (subst (λ n. slice_get m.actors n ≡ Some d) s is) at) h)
      in
      let off' : j ≢ i = λ s. subst (HoldsEntry e) idle
      (subst (λ (z : Actor). HoldsEntry e z.phase)
      (same_at m.actors i d a (subst (λ n. slice_get m.actors n ≡ Some d) s is) me) h) in
      set_else mid from j nobody off ∙ set_else m.actors i j (joined_actor a b) off' ∙ is))
      (λ j d is none. (⊎_elim {C = d ≡ nobody} (λ (p : (j ≡ from) × (nobody ≡ d)). sym p.1)
      (λ (p : (j ≢ from) × (slice_get mid j ≡ Some d)).
      ⊎_elim {C = d ≡ nobody}
      (λ (q : (j ≡ i) × (joined_actor a b ≡ d)).
      absurd (false≢true (sym none ∙ ap (λ (z : Actor). z.live) (sym q.1) ∙ live)))
      (λ (q : (j ≢ i) × (slice_get m.actors j ≡ Some d)). k.quiet j d q.1 none)
      (at_set m.actors i j (joined_actor a b) d p.1)) (at_set mid from j nobody d is)))
      (λ j n d l is on. (⊎_elim {C = IsAnyones m.actors l}
      (λ (p : (j ≡ from) × (nobody ≡ d)).
      absurd (none_some l (subst (λ (z : Actor). slice_get z.lines n ≡ Some l) (sym p.1) on)))
      (λ (p : (j ≢ from) × (slice_get mid j ≡ Some d)). ⊎_elim {C = IsAnyones m.actors l}
      (λ (q : (j ≡ i) × (joined_actor a b ≡ d)).
      ⊎_elim {C = IsAnyones m.actors l}
      (λ (t : (h : ℕ) × (slice_get a.lines h ≡ Some l)). (i, t.0, a, me, t.1))
      (λ (t : (h : ℕ) × (slice_get b.lines h ≡ Some l)). (from, t.0, b, at, t.1))
      (in_append a.lines b.lines n l
      (subst (λ (z : Actor). slice_get z.lines n ≡ Some l) (sym q.1) on)))
      (λ (q : (j ≢ i) × (slice_get m.actors j ≡ Some d)). (j, n, d, q.1, on))
      (at_set m.actors i j (joined_actor a b) d p.1)) (at_set mid from j nobody d is)))
      (joined_receipts i from a b me at other)
