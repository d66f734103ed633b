-- The frame: an entry, an actor and a view change, and the words and the views show the machine as
-- before.
use Rattle.std.specs.Prelude.{slice_get}
use Rattle.std.proofs.Common.{◌≡◌, ◌≢◌, ℕ, ◌+◌, ◌*◌, ◌<◌, ◌≤◌, true, List, [], ◌∷◌, length, set, inl, inr, ⊎_elim, refl, sym, ap, ◌∙◌, subst, arith, Some}
use mathlib.Core.Logic.{dite}
use native.Mathlib.Decide.{ℕ_discrete}
use mathlib.Core.Option.{some}
use Rattle.atomic_table.specs.Table.{State as TableState}
use Rattle.atomic_table.proofs.Lists.{at_set as view_set, set_else as view_else}
use Rattle.entry_model.specs.History.{pair_of}
use Rattle.entry_model.specs.Fronts.{front_at}
use Rattle.lock_core.specs.declared.doing.Doing.{Doing}
use Rattle.lock_core.specs.declared.entry.Entry.{Entry}
use Rattle.lock_core.specs.declared.phase.Phase.{Phase}
use Rattle.lock_core.specs.declared.phase.Phase.TheVariants.{HeldShut, Looked}
use Rattle.lock_core.specs.Machine.{Actor, Machine, HoldsEntry}
use Rattle.lock_core.proofs.Lists.{at_set, set_found, set_else, same_at}
use Rattle.lock_core.proofs.Moves.{put_both}
use Rattle.entry_lock.specs.declared.rule.View.{View}
use Rattle.entry_lock.specs.declared.rule.Opening.{Opening}
use Rattle.entry_lock.specs.Views.{occurrences, states_of}
use Rattle.entry_lock.specs.Rule.{ActsAs, IsHead, WordsShow, AreStored, FrontFits, Shows}
use Rattle.entry_lock.proofs.ViewLists.{set_view, same_view, total_two, total_same, times_head, head_at}
use lib.ListN.{get_elem?}

-- ---- fronts
-- What a step on the entry x, which leaves y, does to the fronts of its pass, and to those of
-- others.
pub record Fronts (e : ℕ) (x y : Entry) (v w : View) : Type 0 where
  pub mine : FrontFits w.actor.phase e y (front_at w.fronts e)
  pub level : (e' : ℕ) → e' ≢ e → front_at w.fronts e' ≡ front_at v.fronts e'
  pub free : (e' : ℕ) → e' ≢ e → ¬ HoldsEntry e' w.actor.phase
  pub others : (p : Phase) (front : ℕ) → FrontFits p e x front → FrontFits p e y front

-- After another phase that holds nothing.
pub other_phase :
    (p q : Phase) (e : ℕ) (x : Entry) (front : ℕ)
    → ¬ HoldsEntry e q
    → FrontFits p e x front
    → FrontFits q e x front
other_phase p q e x front free ok =
    ⊎_elim {C = FrontFits q e x front} (λ (l : front ≤ pair_of x.published). inl l)
    (λ (t : (x.control.shut ≡ true) × (front ≤ (x.published.stamp + 1) * 4) × ¬ HoldsEntry e p).
    inr (t.0, t.1, free)) ok

-- ---- the whole
-- What a step that turns the entry x into y and its pass's view v into w has to leave: words that
-- show y and the other entries as before, and views and fronts that fit them.
pub record Frame (key : Opening) (s : TableState ℕ View) (id e : ℕ) (v w : View) (x y : Entry)
    (words : List ℕ) :
    Type 0 where
  pub numbers : w.numbers ≡ v.numbers
  pub passes : w.passes ≡ v.passes
  pub opening : w.opening ≡ v.opening
  pub size : length w.fronts ≡ length v.fronts
  pub long : length words ≡ length s.words
  pub show : WordsShow words e y
  pub others : (e' : ℕ) (z : Entry) → e' ≢ e → WordsShow s.words e' z → WordsShow words e' z
  pub stores : (d : Doing) → w.actor.phase ≡ HeldShut d → (d.entry ≡ e) × AreStored w d y
  pub keeps :
      (j : ℕ) (u : View) (d : Doing)
      → j ≢ id
      → get_elem? s.views j ≡ some u
      → u.actor.phase ≡ HeldShut d
      → d.entry ≡ e
      → (y.dword0 ≡ x.dword0) × (y.dword1 ≡ x.dword1)
  pub alone :
      (d : Doing)
      → length w.numbers ≡ key.passes
      → w.actor.phase ≡ Looked d
      → (d.entry ≡ e) × (y.control ≡ d.noted)
  pub fronts : Fronts e x y v w

pub set_has :
    (l : List Actor) (n m : ℕ) (a b : Actor)
    → slice_get l n ≡ Some a
    → (x : Actor) × (slice_get l m ≡ Some x)
    → (x : Actor) × (slice_get (set l n b) m ≡ Some x)
set_has l n m a b at h =
    dite {C = (x : Actor) × (slice_get (set l n b) m ≡ Some x)} (ℕ_discrete m n)
    (λ e. (b, subst (λ k. slice_get (set l n b) k ≡ Some b) (sym e) (set_found l n a b at)))
    (λ other. (h.0, set_else l n m b other ∙ h.1))

module _ (key : Opening) (m : Machine) (s : TableState ℕ View) (h : Shows key m s.words s.views)
  where
    -- Two views act as two actors.
    pub apart_from :
        (j id n k : ℕ) (u v : View) (ns ks : List ℕ)
        → j ≢ id
        → get_elem? s.views id ≡ some v
        → get_elem? s.views j ≡ some u
        → v.numbers ≡ n ∷ ns
        → u.numbers ≡ k ∷ ks
        → k ≢ n
    apart_from j id n k u v ns ks other at is e d same =
        let a : 1 ≤ occurrences n v.numbers = subst (λ l. 1 ≤ occurrences n l) (sym e)
        (times_head n ns) in
        let b : 1 ≤ occurrences n u.numbers = subst (λ l. 1 ≤ occurrences n l) (sym d)
        (subst (λ i. 1 ≤ occurrences i (k ∷ ks)) same (times_head k ks)) in
        let t = total_two (λ (w : View). occurrences n w.numbers) s.views j id u v other is at in
        let o = h.apart n in
        omega arith

    -- Beside a view with a number no other has all shares.
    pub not_all :
        (j id : ℕ) (u v : View)
        → j ≢ id
        → get_elem? s.views id ≡ some v
        → get_elem? s.views j ≡ some u
        → 0 < length v.numbers
        → ¬ (length u.numbers ≡ key.passes)
    not_all j id u v other at is has all =
        let t = total_two (λ (w : View). length w.numbers) s.views j id u v other is at in
        let e = h.shares in
        omega arith

    module _ (id e n : ℕ) (ns : List ℕ) (v w : View) (x y : Entry) (words : List ℕ)
        (at : get_elem? s.views id ≡ some v) (mine : v.numbers ≡ n ∷ ns)
        (here : slice_get m.entries e ≡ Some x) (f : Frame key s id e v w x y words) where
      abbrev b : Actor
      b = w.actor

      found : slice_get m.actors n ≡ Some v.actor
      found = subst (λ l. ActsAs m l v.actor) mine (h.views id v at)

      some_number : 0 < length v.numbers
      some_number = let l = ap length mine in omega arith

      my_entry : (z : Entry) → slice_get (set m.entries e y) e ≡ Some z → y ≡ z
      my_entry z there = same_at (set m.entries e y) e y z (set_found m.entries e x y here) there

      words_put :
          (e' : ℕ) (z : Entry) → slice_get (set m.entries e y) e' ≡ Some z → WordsShow words e' z
      words_put e' z is =
          ⊎_elim
          (λ (p : (e' ≡ e) × (y ≡ z)).
          subst (λ (q : ℕ × Entry). WordsShow words q.0 q.1) (λ i. (sym p.0 i, p.1 i)) f.show)
          (λ (p : (e' ≢ e) × (slice_get m.entries e' ≡ Some z)).
          f.others e' z p.0 (h.words e' z p.1))
          (at_set m.entries e e' y z is)

      acts_still :
          (numbers : List ℕ) (a : Actor)
          → ((k : ℕ) (ks : List ℕ) → numbers ≡ k ∷ ks → k ≢ n)
          → ActsAs m numbers a
          → ActsAs (put_both m e y n w.actor) numbers a
      acts_still [] a free is = is
      acts_still (k ∷ ks) a free is = set_else m.actors n k b (free k ks refl) ∙ is

      views_put :
          (j : ℕ) (u : View)
          → get_elem? (set s.views id w) j ≡ some u
          → ActsAs (put_both m e y n w.actor) u.numbers u.actor
      views_put j u is =
          ⊎_elim
          (λ (p : (j ≡ id) × (w ≡ u)).
          subst (λ (q : View). ActsAs (put_both m e y n w.actor) q.numbers q.actor) p.1
          (subst (λ l. ActsAs (put_both m e y n w.actor) l w.actor) (sym (f.numbers ∙ mine))
          (set_found m.actors n v.actor b found)))
          (λ (p : (j ≢ id) × (get_elem? s.views j ≡ some u)).
          acts_still u.numbers u.actor (λ k ks d. apart_from j id n k u v ns ks p.0 at p.1 mine d)
          (h.views j u p.1)) (view_set s.views id j w u is)

      owned_put :
          (k : ℕ) (a : Actor)
          → slice_get (set m.actors n b) k ≡ Some a
          → a.live ≡ true
          → (j : ℕ) × (u : View) × (get_elem? (set s.views id w) j ≡ some u) × IsHead u.numbers k
      owned_put k a is live =
          ⊎_elim
          {C =
          (j : ℕ)
          × (u : View)
          × (get_elem? (set s.views id w) j ≡ some u)
          × IsHead u.numbers k}
          (λ (p : (k ≡ n) × (b ≡ a)). (
            id,
            w,
            set_view s.views id v w at,
            subst (λ l. IsHead l k) (sym (f.numbers ∙ mine)) (sym p.0),
          ))
          (λ (p : (k ≢ n) × (slice_get m.actors k ≡ Some a)).
          let o = h.owned k a p.1 live in
          let other : o.0 ≢ id = λ q. p.0
          (sym
          (head_at v.numbers ns n k mine
          (subst (λ (z : View). IsHead z.numbers k)
          (same_view s.views id o.1 v
          (subst (λ i. get_elem? s.views i ≡ some o.1) q o.2) at) o.3))) in
          (o.0, o.1, view_else s.views id o.0 w other ∙ o.2, o.3)) (at_set m.actors n k b a is)

      stored_put :
          (j : ℕ) (u : View) (d : Doing) (z : Entry)
          → get_elem? (set s.views id w) j ≡ some u
          → u.actor.phase ≡ HeldShut d
          → slice_get (set m.entries e y) d.entry ≡ Some z
          → AreStored u d z
      stored_put j u d z is shut there = ⊎_elim {C = AreStored u d z}
          (λ (p : (j ≡ id) × (w ≡ u)).
          let t = f.stores d (ap (λ (q : View). q.actor.phase) p.1 ∙ shut) in
          subst (λ (q : View × Entry). AreStored q.0 d q.1)
          (λ i. (
            p.1 i,
            my_entry z (subst (λ k. slice_get (set m.entries e y) k ≡ Some z) t.0 there) i,
          )) t.1)
          (λ (p : (j ≢ id) × (get_elem? s.views j ≡ some u)).
          ⊎_elim {C = AreStored u d z}
          (λ (q : (d.entry ≡ e) × (y ≡ z)).
          let old = h.stored j u d x p.1 shut
          (subst (λ k. slice_get m.entries k ≡ Some x) (sym q.0) here) in
          let same = f.keeps j u d p.0 p.1 shut q.0 in
          subst (AreStored u d) q.1
          (record { first = λ t. same.0 ∙ old.first t; second = λ t. same.1 ∙ old.second t }))
          (λ (q : (d.entry ≢ e) × (slice_get m.entries d.entry ≡ Some z)).
          h.stored j u d z p.1 shut q.1) (at_set m.entries e d.entry y z there))
          (view_set s.views id j w u is)

      my_front :
          (e' : ℕ) (z : Entry)
          → slice_get (set m.entries e y) e' ≡ Some z
          → FrontFits w.actor.phase e' z (front_at w.fronts e')
      my_front e' z there = ⊎_elim {C = FrontFits w.actor.phase e' z (front_at w.fronts e')}
          (λ (q : (e' ≡ e) × (y ≡ z)).
          subst (λ (t : ℕ × Entry). FrontFits w.actor.phase t.0 t.1 (front_at w.fronts t.0))
          (λ i. (sym q.0 i, q.1 i)) f.fronts.mine)
          (λ (q : (e' ≢ e) × (slice_get m.entries e' ≡ Some z)).
          subst (FrontFits w.actor.phase e' z) (sym (f.fronts.level e' q.0))
          (other_phase v.actor.phase w.actor.phase e' z (front_at v.fronts e')
          (f.fronts.free e' q.0) (h.fronts id e' v z at q.1)))
          (at_set m.entries e e' y z there)

      fronts_put :
          (j e' : ℕ) (u : View) (z : Entry)
          → get_elem? (set s.views id w) j ≡ some u
          → slice_get (set m.entries e y) e' ≡ Some z
          → FrontFits u.actor.phase e' z (front_at u.fronts e')
      fronts_put j e' u z is there =
          ⊎_elim {C = FrontFits u.actor.phase e' z (front_at u.fronts e')}
          (λ (q : (j ≡ id) × (w ≡ u)).
          subst (λ (t : View). FrontFits t.actor.phase e' z (front_at t.fronts e')) q.1
          (my_front e' z there))
          (λ (q : (j ≢ id) × (get_elem? s.views j ≡ some u)).
          ⊎_elim {C = FrontFits u.actor.phase e' z (front_at u.fronts e')}
          (λ (r : (e' ≡ e) × (y ≡ z)).
          subst (λ (t : ℕ × Entry). FrontFits u.actor.phase t.0 t.1 (front_at u.fronts t.0))
          (λ i. (sym r.0 i, r.1 i))
          (f.fronts.others u.actor.phase (front_at u.fronts e) (h.fronts j e u x q.1 here)))
          (λ (r : (e' ≢ e) × (slice_get m.entries e' ≡ Some z)). h.fronts j e' u z q.1 r.1)
          (at_set m.entries e e' y z there)) (view_set s.views id j w u is)

      alone_put :
          (j : ℕ) (u : View) (d : Doing) (z : Entry)
          → get_elem? (set s.views id w) j ≡ some u
          → length u.numbers ≡ key.passes
          → u.actor.phase ≡ Looked d
          → slice_get (set m.entries e y) d.entry ≡ Some z
          → z.control ≡ d.noted
      alone_put j u d z is all looked there = ⊎_elim {C = z.control ≡ d.noted}
          (λ (p : (j ≡ id) × (w ≡ u)).
          let t = f.alone d (ap (λ (q : View). length q.numbers) p.1 ∙ all)
          (ap (λ (q : View). q.actor.phase) p.1 ∙ looked) in
          ap (λ (q : Entry). q.control)
          (sym (my_entry z (subst (λ k. slice_get (set m.entries e y) k ≡ Some z) t.0 there)))
          ∙ t.1)
          (λ (p : (j ≢ id) × (get_elem? s.views j ≡ some u)).
          absurd (not_all j id u v p.0 at p.1 some_number all)) (view_set s.views id j w u is)

      whole_put :
          (j : ℕ) (u : View)
          → get_elem? (set s.views id w) j ≡ some u
          → 0 < length u.numbers
          → (u.passes ≡ key.passes)
          × (length u.fronts ≡ length (states_of key))
          × (u.opening ≡ states_of key)
      whole_put j u is has =
          ⊎_elim
          {C =
          (u.passes ≡ key.passes)
          × (length u.fronts ≡ length (states_of key))
          × (u.opening ≡ states_of key)}
          (λ (p : (j ≡ id) × (w ≡ u)).
          let o = h.whole id v at some_number in (
            ap (λ (q : View). q.passes) (sym p.1) ∙ f.passes ∙ o.0,
            ap (λ (q : View). length q.fronts) (sym p.1) ∙ f.size ∙ o.1,
            ap (λ (q : View). q.opening) (sym p.1) ∙ f.opening ∙ o.2,
          ))
          (λ (p : (j ≢ id) × (get_elem? s.views j ≡ some u)). h.whole j u p.1 has)
          (view_set s.views id j w u is)

      range_put :
          (j k : ℕ) (u : View)
          → get_elem? (set s.views id w) j ≡ some u
          → 1 ≤ occurrences k u.numbers
          → (a : Actor) × (slice_get (set m.actors n b) k ≡ Some a)
      range_put j k u is has = set_has m.actors n k v.actor b found
          (⊎_elim {C = (a : Actor) × (slice_get m.actors k ≡ Some a)}
          (λ (p : (j ≡ id) × (w ≡ u)).
          h.range id k v at
          (subst (λ l. 1 ≤ occurrences k l)
          (ap (λ (q : View). q.numbers) (sym p.1) ∙ f.numbers) has))
          (λ (p : (j ≢ id) × (get_elem? s.views j ≡ some u)). h.range j k u p.1 has)
          (view_set s.views id j w u is))

      pub shows_put : Shows key (put_both m e y n w.actor) words (set s.views id w)
      shows_put = record {
        fair = h.fair;
        wide = f.long ∙ h.wide;
        words = words_put;
        views = views_put;
        stored = stored_put;
        fronts = fronts_put;
        alone = alone_put;
        whole = whole_put;
        range = range_put;
        owned = owned_put;
        apart =
            λ k.
            subst (λ i. i ≤ 1)
            (sym
            (total_same (λ z. occurrences k z.numbers) s.views id v w at
            (ap (occurrences k) f.numbers))) (h.apart k);
        shares =
            total_same (λ z. length z.numbers) s.views id v w at (ap length f.numbers) ∙ h.shares;
      }
