-- Splits and joins keep the rule.
use Rattle.std.specs.Prelude.{slice_get, if◌then◌else◌}
use Rattle.std.proofs.Common.{◌≡◌, ◌≢◌, ℕ, suc, ◌+◌, ◌*◌, ◌<◌, ◌≤◌, ◌==◌, ◌&&◌, not, Bool, true, false, List, [], ◌∷◌, ◌++◌, length, set, inl, inr, ⊎_elim, refl, sym, ap, ◌∙◌, subst, arith, eq-eqb, ne_eqb, length-append, Some}
use Rattle.std.proofs.lemmas.Bool.{false≢true, lt-ltb, false_from_ne_true}
use Rattle.std.proofs.lemmas.Option.{slice_get_within}
use mathlib.Core.Logic.{dite}
use native.Mathlib.Decide.{ℕ_discrete}
use mathlib.Core.Option.{some}
use Rattle.atomic_table.specs.Table.{State as TableState, Splits, Joins}
use Rattle.atomic_table.proofs.Lists.{at_set as view_set, set_else as view_else, at_longer, at_last, at_snoc}
use Rattle.entry_model.specs.History.{pair_of}
use Rattle.entry_model.specs.Fronts.{front_at, larger}
use Rattle.entry_model.proofs.FrontLaws.{larger_low}
use Rattle.lock_core.specs.declared.doing.Doing.{Doing}
use Rattle.lock_core.specs.declared.entry.Entry.{Entry}
use Rattle.lock_core.specs.declared.phase.Phase.{Phase}
use Rattle.lock_core.specs.declared.phase.Phase.TheVariants.{Idle, HeldShut, Looked}
use Rattle.lock_core.specs.declared.step.Step.{Step}
use Rattle.lock_core.specs.declared.step.Step.TheVariants.{Split, Join}
use Rattle.lock_core.specs.Machine.{Actor, Machine, nobody, newcomer, HoldsEntry}
use Rattle.lock_core.specs.Steps.{may_act, names_entry, fits_phase, is_idle, joined_actor, is_allowed, after_step}
use Rattle.lock_core.specs.Runs.{run}
use Rattle.lock_core.proofs.Lists.{set_found, set_else, some_same}
use Rattle.lock_core.proofs.Telling.{moved_if, stepped_split, stepped_join}
use Rattle.entry_lock.specs.declared.rule.View.{View}
use Rattle.entry_lock.specs.declared.rule.Opening.{Opening}
use Rattle.entry_lock.specs.Views.{occurrences, total, states_of, first_number, second_number, all_but_second, second_alone, parent_view, child_view, joined_view, spent_view}
use Rattle.entry_lock.specs.Rule.{ActsAs, IsHead, AreStored, FrontFits, Shows, ShowsSteps, ShowsRun, machine_after}
use Rattle.entry_lock.specs.PassInvariants.{IsActing}
use Rattle.entry_lock.proofs.ViewLists.{set_view, same_view, total_one, total_two, total_set, total_more, one, times_cons, one_same, times_both, head_times, head_at}
use Rattle.entry_lock.proofs.MachineMoves.{allowed_by, actor_is}
use Rattle.entry_lock.proofs.Frame.{other_phase, set_has, apart_from}
use Rattle.entry_lock.specs.OwnSteps.{steps_by}
use Rattle.entry_lock.proofs.TakenSteps.{Own, own_step, other_step, head_cons}
use Rattle.entry_lock.proofs.PassSteps.{pair_high, me, numbered}
use lib.ListN.{get_elem?}

-- ---- when splits and joins are allowed
is_idle_of : (p : Phase) → p ≡ Idle → is_idle p ≡ true
is_idle_of p h = ap is_idle h

split_moves :
    (m : Machine) (i to : ℕ) (a b : Actor)
    → slice_get m.actors i ≡ Some a
    → a.live ≡ true
    → a.phase ≡ Idle
    → slice_get m.actors to ≡ Some b
    → b.live ≡ false
    → (is_allowed m i (Split to) ≡ true)
    × (after_step m i (Split to) ≡ record m { actors = set m.actors to (newcomer a.lines) })
unfolding may_act names_entry fits_phase
split_moves m i to a b me live idle at dead =
    let may : is_allowed m i (Split to) ≡ true = allowed_by m i (Split to)
    (λ j.
    (ap (λ (z : Actor). z.live) (actor_is m i a me) ∙ live) j &&
    (lt-ltb to (length m.actors) (slice_get_within m.actors to b at) j && not
    ((ap (λ (z : Actor). z.live) (actor_is m to b at) ∙ dead) j)))
    refl (ap (λ (z : Actor). is_idle z.phase) (actor_is m i a me) ∙ is_idle_of a.phase idle) in (
      may,
      sym (stepped_split m i to (Split to) refl ∙ moved_if m i (Split to) may)
          ∙ (λ j. record m { actors = set m.actors to (newcomer (actor_is m i a me j).lines) }),
    )

join_moves :
    (m : Machine) (i from : ℕ) (a b : Actor)
    → slice_get m.actors i ≡ Some a
    → a.live ≡ true
    → a.phase ≡ Idle
    → slice_get m.actors from ≡ Some b
    → b.live ≡ true
    → b.phase ≡ Idle
    → from ≢ i
    → (is_allowed m i (Join from) ≡ true)
    ×
    (after_step m i (Join from)
    ≡ record m { actors = set (set m.actors i (joined_actor a b)) from nobody })
unfolding may_act names_entry fits_phase
join_moves m i from a b me live idle at live' idle' other =
    let may : is_allowed m i (Join from) ≡ true = allowed_by m i (Join from)
    (λ j.
    (ap (λ (z : Actor). z.live) (actor_is m i a me) ∙ live) j &&
    ((ap (λ (z : Actor). z.live) (actor_is m from b at) ∙ live') j && not
    (ne_eqb from i other j)))
    refl
    (λ j.
    (ap (λ (z : Actor). is_idle z.phase) (actor_is m i a me) ∙ is_idle_of a.phase idle) j &&
    (ap (λ (z : Actor). is_idle z.phase) (actor_is m from b at) ∙ is_idle_of b.phase idle')
    j) in (
      may,
      sym (stepped_join m i from (Join from) refl ∙ moved_if m i (Join from) may)
          ∙
          (λ j.
          record m {
            actors =
                set (set m.actors i (joined_actor (actor_is m i a me j) (actor_is m from b at j)))
                from nobody;
          }),
    )

-- ---- fronts of a join
larger_length : (f g : List ℕ) → length g ≡ length f → length (larger f g) ≡ length f
larger_length [] g h = h
larger_length (x ∷ xs) [] h = refl
larger_length (x ∷ xs) (y ∷ ys) h = ap suc (larger_length xs ys (omega arith))

larger_ok :
    (e : ℕ) (x : Entry) (f g : List ℕ)
    → FrontFits Idle e x (front_at f e)
    → FrontFits Idle e x (front_at g e)
    → FrontFits Idle e x (front_at (larger f g) e)
larger_ok e x f g a b = let high = pair_high x.published in
    ⊎_elim {C = FrontFits Idle e x (front_at (larger f g) e)}
    (λ (l : front_at f e ≤ pair_of x.published).
    ⊎_elim {C = FrontFits Idle e x (front_at (larger f g) e)}
    (λ (k : front_at g e ≤ pair_of x.published).
    inl (larger_low f g e (pair_of x.published) l k))
    (λ
    (t :
    (x.control.shut ≡ true)
    × (front_at g e ≤ (x.published.stamp + 1) * 4)
    × ¬ HoldsEntry e Idle).
    inr (t.0, larger_low f g e ((x.published.stamp + 1) * 4) (omega arith) t.1, t.2)) b)
    (λ
    (t :
    (x.control.shut ≡ true)
    × (front_at f e ≤ (x.published.stamp + 1) * 4)
    × ¬ HoldsEntry e Idle).
    let low : front_at g e ≤ (x.published.stamp + 1) * 4 = ⊎_elim
    {C = front_at g e ≤ (x.published.stamp + 1) * 4}
    (λ (k : front_at g e ≤ pair_of x.published). omega arith)
    (λ
    (k :
    (x.control.shut ≡ true)
    × (front_at g e ≤ (x.published.stamp + 1) * 4)
    × ¬ HoldsEntry e Idle).
    k.1) b in
    inr (t.0, larger_low f g e ((x.published.stamp + 1) * 4) t.1 low, t.2)) a

no_shut : (p : Phase) (d : Doing) → p ≡ Idle → p ≡ HeldShut d → ⊥
no_shut p d idle shut = let e : Idle ≡ HeldShut d = sym idle ∙ shut in cc

no_look : (p : Phase) (d : Doing) → p ≡ Idle → p ≡ Looked d → ⊥
no_look p d idle looked = let e : Idle ≡ Looked d = sym idle ∙ looked in cc

module _ (key : Opening) (s : TableState ℕ View) (steps : List (ℕ × Step))
    (h : ShowsSteps key steps s.words s.views) (id n : ℕ) (v : View)
    (at : get_elem? s.views id ≡ some v) where
  abbrev C : Machine
  C = machine_after key steps

  module _ (m : ℕ) (ms : List ℕ) (mine : v.numbers ≡ n ∷ m ∷ ms) (idle : v.actor.phase ≡ Idle)
      (live : v.actor.live ≡ true) where
    abbrev L : View
    L = parent_view v

    abbrev R : View
    R = child_view v

    abbrev child : Actor
    child = newcomer v.actor.lines

    numbers_l : L.numbers ≡ n ∷ ms
    numbers_l = ap all_but_second mine

    numbers_r : R.numbers ≡ m ∷ []
    numbers_r = ap second_alone mine

    once : (k : ℕ) → occurrences k v.numbers ≤ 1
    once k =
        let a = h.shows.apart k in
        let t = total_one (λ (z : View). occurrences k z.numbers) s.views id v at in
        omega arith

    differ : m ≢ n
    differ e = let a = once n in let b :
        occurrences n v.numbers ≡ occurrences n (n ∷ m ∷ ms) =
        ap (occurrences n) mine in let c =
        times_cons n n (m ∷ ms) in let d =
        times_cons n m ms in let o = one_same n in let q :
        one n m ≡ 1 = ap (one n) e ∙ one_same n in omega arith

    sum_numbers :
        (k : ℕ) → occurrences k L.numbers + occurrences k R.numbers ≡ occurrences k v.numbers
    sum_numbers k =
        let a = ap (occurrences k) numbers_l in
        let b = ap (occurrences k) numbers_r in
        let c = ap (occurrences k) mine in
        let d = times_cons k n (m ∷ ms) in
        let e = times_cons k m ms in
        let f = times_cons k n ms in
        let g = times_cons k m [] in
        omega arith

    -- The second number is nobody's.
    unused : (b : Actor) × (slice_get C.actors m ≡ Some b) × (b.live ≡ false)
    unused =
        let r = h.shows.range id m v at
        (let c = ap (occurrences m) mine in
        let d = times_cons m n (m ∷ ms) in
        let e = times_cons m m ms in
        let o = one_same m in
        omega arith) in
        let dead : r.0.live ≡ false = false_from_ne_true r.0.live (λ l.
        let o = h.shows.owned m r.0 r.1 l in
        dite {C = ⊥} (ℕ_discrete o.0 id)
        (λ e.
        differ
        (sym
        (head_at v.numbers (m ∷ ms) n m mine
        (subst (λ (z : View). IsHead z.numbers m)
        (same_view s.views id o.1 v
        (subst (λ k. get_elem? s.views k ≡ some o.1) e o.2) at) o.3))))
        (λ other.
        let t = total_two (λ (z : View). occurrences m z.numbers) s.views o.0 id o.1 v other o.2 at
        in
        let a = h.shows.apart m in
        let x : 1 ≤ occurrences m o.1.numbers = head_times o.1.numbers m o.3 in
        let c = ap (occurrences m) mine in
        let d = times_cons m n (m ∷ ms) in
        let e = times_cons m m ms in
        let u = one_same m in
        omega arith)) in
        (r.0, r.1, dead)

    abbrev D : Machine
    D = record C { actors = set C.actors m child }

    moved : (is_allowed C n (Split m) ≡ true) × (after_step C n (Split m) ≡ D)
    moved =
        split_moves C n m v.actor unused.0 (me key s steps h id n (m ∷ ms) v at mine) live idle
        unused.1 unused.2

    abbrev VS : List View
    VS = set s.views id L ++ R ∷ []

    by_view :
        (F : View → Type 0) (j : ℕ) (u : View)
        → get_elem? (set s.views id L ++ R ∷ []) j ≡ some u
        → F L
        → F R
        → (j ≢ id → get_elem? s.views j ≡ some u → F u)
        → F u
    by_view F j u is l r others =
        ⊎_elim {C = F u}
        (λ (p : get_elem? (set s.views id L) j ≡ some u).
        ⊎_elim {C = F u} (λ (q : (j ≡ id) × (L ≡ u)). subst F q.1 l)
        (λ (q : (j ≢ id) × (get_elem? s.views j ≡ some u)). others q.0 q.1)
        (view_set s.views id j L u p))
        (λ (e : R ≡ u). subst F e r) (at_snoc (set s.views id L) R u j is)

    acts_still :
        (numbers : List ℕ) (a : Actor)
        → ((k : ℕ) (ks : List ℕ) → numbers ≡ k ∷ ks → k ≢ m)
        → ActsAs C numbers a
        → ActsAs D numbers a
    acts_still [] a free is = is
    acts_still (k ∷ ks) a free is = set_else C.actors m k child (free k ks refl) ∙ is

    apart_m :
        (j k : ℕ) (u : View) (ks : List ℕ)
        → j ≢ id
        → get_elem? s.views j ≡ some u
        → u.numbers ≡ k ∷ ks
        → k ≢ m
    apart_m j k u ks other is d e =
        let t = total_two (λ (z : View). occurrences m z.numbers) s.views j id u v other is at in
        let a = h.shows.apart m in
        let x = ap (occurrences m) d in
        let y = times_cons m k ks in
        let z : one m k ≡ 1 = ap (one m) e ∙ one_same m in
        let c = ap (occurrences m) mine in
        let f = times_cons m n (m ∷ ms) in
        let g = times_cons m m ms in
        let u' = one_same m in
        omega arith

    found_n : slice_get D.actors n ≡ Some v.actor
    found_n =
        set_else C.actors m n child (λ e. differ (sym e)) ∙ me key s steps h id n (m ∷ ms) v at mine

    found_m : slice_get D.actors m ≡ Some child
    found_m = set_found C.actors m unused.0 child unused.1

    has_share : 0 < length v.numbers
    has_share = let l = ap length mine in omega arith

    taken_l : L.taken ≡ Split m ∷ v.taken
    taken_l = ap (λ l. Split (second_number l) ∷ v.taken) mine

    had : v.taken ≡ steps_by n steps
    had = h.own id n v at (subst (λ l. IsHead l n) (sym mine) refl)

    -- The pass knows that it split, and the new one that it took no step.
    own_split : Own ((n, Split m) ∷ steps) VS
    own_split j k u is head =
        by_view (λ z. IsHead z.numbers k → z.taken ≡ steps_by k ((n, Split m) ∷ steps)) j u is
        (λ t. let same : n ≡ k = head_at L.numbers ms n k numbers_l t in
        taken_l
        ∙ ap (λ l. Split m ∷ l) had
        ∙ sym (own_step n (Split m) steps (ne_eqb m n differ))
        ∙ ap (λ q. steps_by q ((n, Split m) ∷ steps)) same)
        (λ t. let same : m ≡ k = head_at R.numbers [] m k numbers_r t in
        sym
        (ap
        (λ (b : Bool).
        if b then [] else
        (if n == m then Split m ∷ steps_by m steps else steps_by m steps))
        (eq-eqb m m refl))
        ∙ ap (λ q. steps_by q ((n, Split m) ∷ steps)) same)
        (λ other is' t. let c = head_cons u.numbers k t in
        let no_n : k ≢ n = apart_from key C s h.shows j id n k u v (m ∷ ms) c.0 other at is' mine
        c.1 in
        let no_m : k ≢ m = apart_m j k u c.0 other is' c.1 in
        h.own j k u is' t
        ∙ sym (other_step k n (Split m) steps (λ q. no_n (sym q)) (ne_eqb m k (λ q. no_m (sym q)))))
        head

    machine_split : Shows key (machine_after key ((n, Split m) ∷ steps)) s.words VS
    unfolding run
    machine_split =
        subst (λ (c : Machine). Shows key c s.words VS) (sym moved.1) (record {
          fair = h.shows.fair;
          wide = h.shows.wide;
          words = h.shows.words;
          views =
              λ j u is.
              by_view (λ z. ActsAs D z.numbers z.actor) j u is
              (subst (λ l. ActsAs D l v.actor) (sym numbers_l) found_n)
              (subst (λ l. ActsAs D l child) (sym numbers_r) found_m)
              (λ other is'.
              acts_still u.numbers u.actor (λ k ks d. apart_m j k u ks other is' d)
              (h.shows.views j u is'));
          stored =
              λ j u d x is.
              by_view
              (λ z.
              z.actor.phase ≡ HeldShut d
              → slice_get D.entries d.entry ≡ Some x
              → AreStored z d x) j u is (λ p. absurd (no_shut v.actor.phase d idle p))
              (λ p. absurd (no_shut Idle d refl p)) (λ other is'. h.shows.stored j u d x is');
          fronts =
              λ j e u x is.
              by_view
              (λ z.
              slice_get D.entries e ≡ Some x
              → FrontFits z.actor.phase e x (front_at z.fronts e)) j u is
              (λ t. h.shows.fronts id e v x at t)
              (λ t.
              other_phase v.actor.phase Idle e x (front_at v.fronts e) (λ z. z)
              (h.shows.fronts id e v x at t)) (λ other is'. h.shows.fronts j e u x is');
          alone =
              λ j u d x is.
              by_view
              (λ z.
              length z.numbers ≡ key.passes
              → z.actor.phase ≡ Looked d
              → slice_get D.entries d.entry ≡ Some x
              → x.control ≡ d.noted) j u is (λ all p. absurd (no_look v.actor.phase d idle p))
              (λ all p. absurd (no_look Idle d refl p))
              (λ other is'. h.shows.alone j u d x is');
          whole =
              λ j u is.
              by_view
              (λ z.
              0 < length z.numbers
              → (z.passes ≡ key.passes)
              × (length z.fronts ≡ length (states_of key))
              × (z.opening ≡ states_of key)) j u is (λ _. h.shows.whole id v at has_share)
              (λ _. h.shows.whole id v at has_share) (λ other is'. h.shows.whole j u is');
          range = λ j k u is has. set_has C.actors m k unused.0 child unused.1
              (by_view
              (λ z.
              1 ≤ occurrences k z.numbers → (a : Actor) × (slice_get C.actors k ≡ Some a)) j u
              is (λ t. h.shows.range id k v at (let e = sum_numbers k in omega arith))
              (λ t. h.shows.range id k v at (let e = sum_numbers k in omega arith))
              (λ other is'. h.shows.range j k u is') has);
          owned =
              λ k a is live'.
              (dite {C = (j : ℕ) × (u : View) × (get_elem? VS j ≡ some u) × IsHead u.numbers k}
              (ℕ_discrete k m)
              (λ e. (
                length (set s.views id L),
                R,
                at_last (set s.views id L) R (length (set s.views id L)) refl,
                subst (λ l. IsHead l k) (sym numbers_r) (sym e),
              ))
              (λ other.
              let o = h.shows.owned k a (sym (set_else C.actors m k child other) ∙ is) live' in
              dite {C = (j : ℕ) × (u : View) × (get_elem? VS j ≡ some u) × IsHead u.numbers k}
              (ℕ_discrete o.0 id)
              (λ e. (
                id,
                L,
                at_longer (set s.views id L) (R ∷ []) id L (set_view s.views id v L at),
                subst (λ l. IsHead l k) (sym numbers_l)
                    (head_at v.numbers (m ∷ ms) n k mine
                    (subst (λ (z : View). IsHead z.numbers k)
                    (same_view s.views id o.1 v
                    (subst (λ q. get_elem? s.views q ≡ some o.1) e o.2) at) o.3)),
              ))
              (λ away. (
                o.0,
                o.1,
                at_longer (set s.views id L) (R ∷ []) o.0 o.1
                    (view_else s.views id o.0 L away ∙ o.2),
                o.3,
              ))));
          apart =
              λ k.
              (let t = total_more (λ (z : View). occurrences k z.numbers) (set s.views id L) R in
              let u = total_set (λ (z : View). occurrences k z.numbers) s.views id v L at in
              let e = sum_numbers k in
              let a = h.shows.apart k in
              omega arith);
          shares =
              (let t = total_more (λ (z : View). length z.numbers) (set s.views id L) R in
              let u = total_set (λ (z : View). length z.numbers) s.views id v L at in
              let a = ap length numbers_l in
              let b = ap length numbers_r in
              let c = ap length mine in
              let e = h.shows.shares in
              omega arith);
        })

    pub shows_split : ShowsSteps key ((n, Split m) ∷ steps) s.words VS
    shows_split = record { shows = machine_split; allowed = (moved.0, h.allowed); own = own_split }

  module _ (ns : List ℕ) (mine : v.numbers ≡ n ∷ ns) (idle : v.actor.phase ≡ Idle)
      (live : v.actor.live ≡ true)
      (id' m : ℕ) (w : View) (ms : List ℕ) (away : id' ≢ id) (at' : get_elem? s.views id' ≡ some w)
      (theirs : w.numbers ≡ m ∷ ms) (idle' : w.actor.phase ≡ Idle) (live' : w.actor.live ≡ true)
    where
      abbrev B : View
      B = joined_view v w

      abbrev both : Actor
      both = joined_actor v.actor w.actor

      abbrev mid : List View
      mid = set s.views id B

      abbrev ES : List View
      ES = set (set s.views id B) id' spent_view

      differs : m ≢ n
      differs = apart_from key C s h.shows id' id n m w v ns ms away at at' mine theirs

      found_v : slice_get C.actors n ≡ Some v.actor
      found_v = subst (λ l. ActsAs C l v.actor) mine (h.shows.views id v at)

      found_w : slice_get C.actors m ≡ Some w.actor
      found_w = subst (λ l. ActsAs C l w.actor) theirs (h.shows.views id' w at')

      abbrev E : Machine
      E = record C { actors = set (set C.actors n both) m nobody }

      joins : (is_allowed C n (Join m) ≡ true) × (after_step C n (Join m) ≡ E)
      joins = join_moves C n m v.actor w.actor found_v live idle found_w live' idle' differs

      at_mid : get_elem? mid id' ≡ some w
      at_mid = view_else s.views id id' B away ∙ at'

      by_seat :
          (F : View → Type 0) (j : ℕ) (u : View)
          → get_elem? (set (set s.views id (joined_view v w)) id' spent_view) j ≡ some u
          → F B
          → F spent_view
          → (j ≢ id → j ≢ id' → get_elem? s.views j ≡ some u → F u)
          → F u
      by_seat F j u is b e others =
          ⊎_elim {C = F u} (λ (p : (j ≡ id') × (spent_view ≡ u)). subst F p.1 e)
          (λ (p : (j ≢ id') × (get_elem? mid j ≡ some u)).
          ⊎_elim {C = F u} (λ (q : (j ≡ id) × (B ≡ u)). subst F q.1 b)
          (λ (q : (j ≢ id) × (get_elem? s.views j ≡ some u)). others q.0 p.0 q.1)
          (view_set s.views id j B u p.1)) (view_set mid id' j spent_view u is)

      both_acts : slice_get E.actors n ≡ Some both
      both_acts =
          set_else (set C.actors n both) m n nobody (λ e. differs (sym e))
          ∙ set_found C.actors n v.actor both found_v

      acts_on :
          (numbers : List ℕ) (a : Actor)
          → ((k : ℕ) (ks : List ℕ) → numbers ≡ k ∷ ks → (k ≢ n) × (k ≢ m))
          → ActsAs C numbers a
          → ActsAs E numbers a
      acts_on [] a free is = is
      acts_on (k ∷ ks) a free is =
          let f = free k ks refl in
          set_else (set C.actors n both) m k nobody f.1 ∙ set_else C.actors n k both f.0 ∙ is

      numbers_b : B.numbers ≡ n ∷ (ns ++ w.numbers)
      numbers_b = ap (λ l. l ++ w.numbers) mine

      two_totals :
          (f : View → ℕ) → f B ≡ f v + f w → f spent_view ≡ 0 → total f ES ≡ total f s.views
      two_totals f b e =
          let t = total_set f s.views id v B at in
          let u = total_set f mid id' w spent_view at_mid in
          omega arith

      share_v : 0 < length v.numbers
      share_v = let l = ap length mine in omega arith

      share_w : 0 < length w.numbers
      share_w = let l = ap length theirs in omega arith

      nobody_after : slice_get (set (set C.actors n both) m nobody) m ≡ Some nobody
      nobody_after =
          set_found (set C.actors n both) m w.actor nobody
          (set_else C.actors n m both differs ∙ found_w)

      taken_b : B.taken ≡ Join m ∷ v.taken
      taken_b = ap (λ l. Join (first_number l) ∷ v.taken) theirs

      had_v : v.taken ≡ steps_by n steps
      had_v = h.own id n v at (subst (λ l. IsHead l n) (sym mine) refl)

      -- The pass knows that it joined the other.
      own_join : Own ((n, Join m) ∷ steps) ES
      own_join j k u is head =
          by_seat (λ z. IsHead z.numbers k → z.taken ≡ steps_by k ((n, Join m) ∷ steps)) j u is
          (λ t. let same : n ≡ k = head_at B.numbers (ns ++ w.numbers) n k numbers_b t in
          taken_b
          ∙ ap (λ l. Join m ∷ l) had_v
          ∙ sym (own_step n (Join m) steps refl)
          ∙ ap (λ q. steps_by q ((n, Join m) ∷ steps)) same)
          (λ t. absurd t)
          (λ o o' is' t. let c = head_cons u.numbers k t in
          let no_n : k ≢ n = apart_from key C s h.shows j id n k u v ns c.0 o at is' mine c.1 in
          h.own j k u is' t ∙ sym (other_step k n (Join m) steps (λ q. no_n (sym q)) refl))
          head

      machine_join : Shows key (machine_after key ((n, Join m) ∷ steps)) s.words ES
      unfolding run
      machine_join =
          subst (λ (c : Machine). Shows key c s.words ES) (sym joins.1) (record {
            fair = h.shows.fair;
            wide = h.shows.wide;
            words = h.shows.words;
            views =
                λ j u is.
                by_seat (λ z. ActsAs E z.numbers z.actor) j u is
                (subst (λ l. ActsAs E l both) (sym numbers_b) both_acts) refl
                (λ o o' is'.
                acts_on u.numbers u.actor
                (λ k ks d. (
                  apart_from key C s h.shows j id n k u v ns ks o at is' mine d,
                  apart_from key C s h.shows j id' m k u w ms ks o' at' is' theirs d,
                ))
                (h.shows.views j u is'));
            stored =
                λ j u d x is.
                by_seat
                (λ z.
                z.actor.phase ≡ HeldShut d
                → slice_get E.entries d.entry ≡ Some x
                → AreStored z d x) j u is (λ p. absurd (no_shut v.actor.phase d idle p))
                (λ p. absurd (no_shut Idle d refl p)) (λ o o' is'. h.shows.stored j u d x is');
            fronts =
                λ j e u x is.
                by_seat
                (λ z.
                slice_get E.entries e ≡ Some x
                → FrontFits z.actor.phase e x (front_at z.fronts e)) j u is
                (λ t.
                other_phase Idle v.actor.phase e x (front_at (larger v.fronts w.fronts) e)
                (λ q. subst (HoldsEntry e) idle q)
                (larger_ok e x v.fronts w.fronts
                (other_phase v.actor.phase Idle e x (front_at v.fronts e) (λ z. z)
                (h.shows.fronts id e v x at t))
                (other_phase w.actor.phase Idle e x (front_at w.fronts e) (λ z. z)
                (h.shows.fronts id' e w x at' t))))
                (λ t. inl (omega arith)) (λ o o' is'. h.shows.fronts j e u x is');
            alone =
                λ j u d x is.
                by_seat
                (λ z.
                length z.numbers ≡ key.passes
                → z.actor.phase ≡ Looked d
                → slice_get E.entries d.entry ≡ Some x
                → x.control ≡ d.noted) j u is (λ all p. absurd (no_look v.actor.phase d idle p))
                (λ all p. absurd (no_look Idle d refl p)) (λ o o' is'. h.shows.alone j u d x is');
            whole =
                λ j u is.
                by_seat
                (λ z.
                0 < length z.numbers
                → (z.passes ≡ key.passes)
                × (length z.fronts ≡ length (states_of key))
                × (z.opening ≡ states_of key)) j u is
                (λ _.
                (let a = h.shows.whole id v at share_v in
                let b = h.shows.whole id' w at' share_w in
                (a.0, larger_length v.fronts w.fronts (b.1 ∙ sym a.1) ∙ a.1, a.2)))
                (λ x. absurd (omega arith)) (λ o o' is'. h.shows.whole j u is');
            range =
                λ j k u is has.
                set_has (set C.actors n both) m k w.actor nobody
                (set_else C.actors n m both differs ∙ found_w)
                (set_has C.actors n k v.actor both found_v
                (by_seat
                (λ z.
                1 ≤ occurrences k z.numbers → (a : Actor) × (slice_get C.actors k ≡ Some a)) j u
                is
                (λ t.
                dite {C = (a : Actor) × (slice_get C.actors k ≡ Some a)}
                (ℕ_discrete (occurrences k v.numbers) 0)
                (λ z.
                h.shows.range id' k w at'
                (let e = times_both k v.numbers w.numbers in omega arith))
                (λ z. h.shows.range id k v at (omega arith)))
                (λ t. absurd (omega arith)) (λ o o' is'. h.shows.range j k u is') has));
            owned =
                λ k a is alive.
                (dite {C = (j : ℕ) × (u : View) × (get_elem? ES j ≡ some u) × IsHead u.numbers k}
                (ℕ_discrete k m)
                (λ e.
                let q : nobody ≡ a = some_same nobody a
                (sym nobody_after ∙ subst (λ z. slice_get E.actors z ≡ Some a) e is) in
                absurd (false≢true (ap (λ (z : Actor). z.live) q ∙ alive)))
                (λ not_m.
                dite {C = (j : ℕ) × (u : View) × (get_elem? ES j ≡ some u) × IsHead u.numbers k}
                (ℕ_discrete k n)
                (λ e. (
                  id,
                  B,
                  view_else mid id' id spent_view (λ z. away (sym z)) ∙ set_view s.views id v B at,
                  subst (λ l. IsHead l k) (sym numbers_b) (sym e),
                ))
                (λ not_n.
                let old : slice_get C.actors k ≡ Some a = sym (set_else C.actors n k both not_n) ∙
                sym (set_else (set C.actors n both) m k nobody not_m) ∙ is in
                let o = h.shows.owned k a old alive in
                let off : o.0 ≢ id = λ e. not_n
                (sym
                (head_at v.numbers ns n k mine
                (subst (λ (z : View). IsHead z.numbers k)
                (same_view s.views id o.1 v
                (subst (λ q. get_elem? s.views q ≡ some o.1) e o.2) at) o.3)))
                in
                let off' : o.0 ≢ id' = λ e. not_m
                (sym
                (head_at w.numbers ms m k theirs
                (subst (λ (z : View). IsHead z.numbers k)
                (same_view s.views id' o.1 w
                (subst (λ q. get_elem? s.views q ≡ some o.1) e o.2) at')
                o.3))) in (
                  o.0,
                  o.1,
                  view_else mid id' o.0 spent_view off' ∙ view_else s.views id o.0 B off ∙ o.2,
                  o.3,
                ))));
            apart =
                λ k.
                subst (λ z. z ≤ 1)
                (sym
                (two_totals (λ z. occurrences k z.numbers) (times_both k v.numbers w.numbers)
                refl)) (h.shows.apart k);
            shares =
                two_totals (λ z. length z.numbers) (length-append v.numbers w.numbers) refl
                ∙ h.shows.shares;
          })

      pub shows_join : ShowsSteps key ((n, Join m) ∷ steps) s.words ES
      shows_join = record { shows = machine_join; allowed = (joins.0, h.allowed); own = own_join }

two_numbers : (l : List ℕ) → 2 ≤ length l → (n : ℕ) × (m : ℕ) × (ms : List ℕ) × (l ≡ n ∷ m ∷ ms)
two_numbers [] h = absurd (omega arith)
two_numbers (n ∷ []) h = absurd (omega arith)
two_numbers (n ∷ m ∷ ms) h = (n, m, ms, refl)

pub splits :
    (key : Opening) (id : ℕ) (v : View)
    → IsActing v
    → v.actor.phase ≡ Idle
    → 2 ≤ length v.numbers
    → Splits {S = ℕ} (ShowsRun key) id v (parent_view v) (child_view v)
splits key id v acts idle two s h at =
    let t = two_numbers v.numbers two in
    ((t.0, Split t.1) ∷ h.0, shows_split key s h.0 h.1 id t.0 v at t.1 t.2 t.3 idle acts.live)

pub joins_seats :
    (key : Opening) (id other : ℕ) (v w : View)
    → IsActing v
    → v.actor.phase ≡ Idle
    → IsActing w
    → w.actor.phase ≡ Idle
    → Joins {S = ℕ} (ShowsRun key) id v other w (joined_view v w) spent_view
joins_seats key id other v w a i a' i' s h at away is =
    let n = numbered v a in let m = numbered w a' in (
      (n.0, Join m.0) ∷ h.0,
      shows_join key s h.0 h.1 id n.0 v at n.1 n.2 i a.live other m.0 w m.1 away
          (sym (view_else s.views id other (joined_view v w) away) ∙ is) m.2 i' a'.live,
    )
