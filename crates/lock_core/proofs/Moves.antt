-- A step of an actor on an entry keeps what is kept.
use Rattle.std.specs.Prelude.{slice_get, if◌then◌else◌}
use Rattle.std.proofs.Common.{◌≡◌, ◌≢◌, ◌⊎◌, ℕ, zero, suc, Bool, true, false, List, [], ◌∷◌, ◌++◌, set, inl, inr, ⊎_elim, refl, sym, ap, ◌∙◌, subst, length-set, Option, Some, None, eq-eqb, ne_eqb, eqb, append-nil, append_assoc}
use Rattle.std.proofs.lemmas.Bool.{cases_Bool, false≢true}
use Rattle.entry_model.specs.State.{State, Follows}
use Rattle.entry_model.specs.declared.receipt.Receipt.{Receipt}
use Rattle.entry_model.specs.Receipt.{after_of, is_decided}
use Rattle.entry_model.specs.CachedLines.{Holds}
use Rattle.entry_model.specs.History.{IsLegal, Regrouped, twice}
use Rattle.entry_model.proofs.Follows.{stays, follows_on, reply_follows}
use Rattle.entry_model.proofs.OperationLaws.{decided_valid}
use Rattle.entry_model.proofs.LineLaws.{holds_on}
use Rattle.entry_model.proofs.Regroup.{regrouped_self}
use Rattle.entry_model.proofs.Logged.{legal_more, regrouped_before, regrouped_behind, regrouped_swap, regrouped_along}
use Rattle.lock_core.specs.declared.doing.Doing.{Doing}
use Rattle.lock_core.specs.declared.entry.Entry.{Entry}
use Rattle.lock_core.specs.declared.phase.Phase.{Phase}
use Rattle.lock_core.specs.declared.phase.Phase.TheVariants.{Idle, Held, HeldShut, Looked}
use Rattle.lock_core.specs.declared.sighting.Sighting.{Sighting}
use Rattle.lock_core.specs.Machine.{Actor, Machine, nobody, sighting_of, shown_sightings, HoldsEntry}
use Rattle.lock_core.specs.declared.step_result.StepResult.{StepResult}
use Rattle.lock_core.specs.Steps.{actor_after}
use Rattle.lock_core.specs.Runs.{receipts_of}
use Rattle.lock_core.proofs.Kept.{IsOn, EntryOk, LookedOk, PhaseOk, as_line, on_entry, logged, Kept}
use Rattle.lock_core.proofs.Lists.{some_same, none_some, at_set, set_found, set_else, same_at, in_append}

pub lock_is_on : (e : ℕ) (p : Phase) → HoldsEntry e p → IsOn e p
lock_is_on e Idle h = h
lock_is_on e (Held d) h = h
lock_is_on e (HeldShut d) h = h
lock_is_on e (Looked d) h = absurd h

-- Those that don't hold the entry have only looked at it.
pub phase_stays :
    (e : ℕ) (p : Phase) (x y : Entry)
    → IsOn e p
    → PhaseOk p x
    → ¬ HoldsEntry e p
    → ((d : Doing) → d.entry ≡ e → LookedOk d x → LookedOk d y)
    → PhaseOk p y
phase_stays e Idle x y on ok free looks = tt
phase_stays e (Held d) x y on ok free looks = absurd (free on)
phase_stays e (HeldShut d) x y on ok free looks = absurd (free on)
phase_stays e (Looked d) x y on ok free looks = looks d on ok

-- ---- what a step shows of the state that its entry counts with
-- Without a receipt it stays; a receipt leads from the old state to the new one.
abbrev pub Tells : ℕ → State → Option Receipt → State → Type 0
Tells e before None after = after ≡ before
Tells e before (Some r) after = (r.entry ≡ e) × (r.before ≡ before) × (after_of r ≡ after)

pub tells_follows :
    (e : ℕ) (p : State) (made : Option Receipt) (q : State) → Tells e p made q → Follows p q
tells_follows e p None q t = subst (Follows p) (sym t) (stays p)
tells_follows e p (Some r) q t =
    subst (λ s. Follows s q) t.1 (subst (Follows r.before) t.2 (reply_follows r.before r.op))

pub here_too :
    (e : ℕ) (r : Receipt) (log : List Receipt)
    → r.entry ≡ e
    → on_entry e (log ++ r ∷ []) ≡ on_entry e log ++ r ∷ []
here_too e r [] h = ap (λ b. if b then r ∷ [] else []) (eq-eqb r.entry e h)
here_too e r (x ∷ xs) h = by (eqb x.entry e) (here_too e r xs h) where
  by :
      (b : Bool)
      → on_entry e (xs ++ r ∷ []) ≡ on_entry e xs ++ r ∷ []
      → (if b then x ∷ on_entry e (xs ++ r ∷ []) else on_entry e (xs ++ r ∷ []))
      ≡ (if b then x ∷ on_entry e xs else on_entry e xs) ++ r ∷ []
  by true rest = ap (λ l. x ∷ l) rest
  by false rest = rest

pub not_here :
    (e : ℕ) (r : Receipt) (log : List Receipt)
    → r.entry ≢ e
    → on_entry e (log ++ r ∷ []) ≡ on_entry e log
not_here e r [] h = ap (λ b. if b then r ∷ [] else []) (ne_eqb r.entry e h)
not_here e r (x ∷ xs) h = by (eqb x.entry e) (not_here e r xs h) where
  by :
      (b : Bool)
      → on_entry e (xs ++ r ∷ []) ≡ on_entry e xs
      → (if b then x ∷ on_entry e (xs ++ r ∷ []) else on_entry e (xs ++ r ∷ []))
      ≡ (if b then x ∷ on_entry e xs else on_entry e xs)
  by true rest = ap (λ l. x ∷ l) rest
  by false rest = rest

chain_here :
    (e : ℕ) (s p : State) (made : Option Receipt) (q : State) (log : List Receipt)
    → Tells e p made q
    → IsLegal s (on_entry e log) p
    → IsLegal s (on_entry e (logged log made)) q
chain_here e s p None q log t legal = subst (IsLegal s (on_entry e log)) (sym t) legal
chain_here e s p (Some r) q log t legal =
    subst (λ l. IsLegal s l q) (sym (here_too e r log t.0))
    (legal_more s p q (on_entry e log) r legal t.1 t.2)

chain_there :
    (e e' : ℕ) (p : State) (made : Option Receipt) (q : State) (log : List Receipt)
    → Tells e p made q
    → e' ≢ e
    → on_entry e' (logged log made) ≡ on_entry e' log
chain_there e e' p None q log t other = refl
chain_there e e' p (Some r) q log t other = not_here e' r log (λ h. other (sym h ∙ t.0))

-- ---- the actor after a step
pub after_phase : (a : Actor) (p : Phase) (made : Option Receipt) → (actor_after a p made).phase ≡ p
after_phase a p None = refl
after_phase a p (Some r) = refl

pub after_live :
    (a : Actor) (p : Phase) (made : Option Receipt) → (actor_after a p made).live ≡ a.live
after_live a p None = refl
after_live a p (Some r) = refl

one_line : (l : Sighting) (k : ℕ) (l' : Sighting) → slice_get (l ∷ []) k ≡ Some l' → l ≡ l'
one_line l zero l' h = some_same l l' h
one_line l (suc k) l' h = absurd (none_some l' h)

-- A line that a receipt shows is its entry's in the state before, which was valid.
shown_is :
    (r : Receipt) (k : ℕ) (l : Sighting)
    → slice_get (shown_sightings r) k ≡ Some l
    → (is_decided r.answer ≡ true) × (sighting_of r.entry r.before ≡ l)
shown_is r k l = at (cases_Bool (is_decided r.answer)) where
  at :
      (is_decided r.answer ≡ true) ⊎ (is_decided r.answer ≡ false)
      → slice_get (shown_sightings r) k ≡ Some l
      → (is_decided r.answer ≡ true) × (sighting_of r.entry r.before ≡ l)
  at (inl yes') = λ h. (yes', one_line (sighting_of r.entry r.before) k l (rw yes' at h))
  at (inr no') = λ h. absurd (none_some l (rw no' at h))

shown_holds :
    (r : Receipt) (k : ℕ) (l : Sighting)
    → slice_get (shown_sightings r) k ≡ Some l
    → (l.entry ≡ r.entry) × Holds (as_line l) (after_of r)
shown_holds r k l h =
    let s = shown_is r k l h in
    let valid : r.before.valid ≡ true = decided_valid r.before r.op
    (ap is_decided (sym r.lawful) ∙ s.0) in
    let before : Holds (as_line (sighting_of r.entry r.before)) r.before = inr
    (record { valid = valid; stamp = refl; dword0 = refl; dword1 = refl }) in (
      ap (λ (z : Sighting). z.entry) (sym s.1),
      subst (λ (z : Sighting). Holds (as_line z) (after_of r)) s.1
          (holds_on (as_line (sighting_of r.entry r.before)) r.before (after_of r)
          (reply_follows r.before r.op) before),
    )

-- Its lines are those it had, and one that holds of the new state.
pub after_lines :
    (a : Actor) (p : Phase) (made : Option Receipt) (e : ℕ) (s t : State)
    → Tells e s made t
    → (k : ℕ) (l : Sighting)
    → slice_get (actor_after a p made).lines k ≡ Some l
    → ((j : ℕ) × (slice_get a.lines j ≡ Some l)) ⊎ ((l.entry ≡ e) × Holds (as_line l) t)
after_lines a p None e s t tells k l h = inl (k, h)
after_lines a p (Some r) e s t tells k l h =
    ⊎_elim {C = ((j : ℕ) × (slice_get a.lines j ≡ Some l)) ⊎ ((l.entry ≡ e) × Holds (as_line l) t)}
    (λ q. inl q)
    (λ (q : (j : ℕ) × (slice_get (shown_sightings r) j ≡ Some l)).
    let z = shown_holds r q.0 l q.1 in inr (z.0 ∙ tells.0, subst (Holds (as_line l)) tells.2 z.1))
    (in_append a.lines (shown_sightings r) k l h)

-- ---- the receipts of all actors, where those of one change
pub set_receipts :
    (as' : List Actor) (i : ℕ) (a b : Actor) (rs : List Receipt)
    → slice_get as' i ≡ Some a
    → Regrouped (a.receipts ++ rs) b.receipts
    → Regrouped (receipts_of as' ++ rs) (receipts_of (set as' i b))
set_receipts [] i a b rs h g = absurd (none_some a h)
set_receipts (z ∷ zs) zero a b rs h g =
    let same : z ≡ a = some_same z a h in
    let g' : Regrouped (z.receipts ++ rs) b.receipts = subst
    (λ (y : Actor). Regrouped (y.receipts ++ rs) b.receipts) (sym same) g in
    twice
    (regrouped_along (append_assoc z.receipts (receipts_of zs) rs)
    (regrouped_self (z.receipts ++ receipts_of zs ++ rs)))
    (twice (regrouped_before z.receipts (regrouped_swap (receipts_of zs) rs))
    (twice
    (regrouped_along (sym (append_assoc z.receipts rs (receipts_of zs)))
    (regrouped_self (z.receipts ++ (rs ++ receipts_of zs))))
    (regrouped_behind (receipts_of zs) g')))
set_receipts (z ∷ zs) (suc i) a b rs h g =
    twice
    (regrouped_along (append_assoc z.receipts (receipts_of zs) rs)
    (regrouped_self (z.receipts ++ receipts_of zs ++ rs)))
    (regrouped_before z.receipts (set_receipts zs i a b rs h g))

pub same_receipts :
    (as' : List Actor) (i : ℕ) (a b : Actor)
    → slice_get as' i ≡ Some a
    → b.receipts ≡ a.receipts
    → Regrouped (receipts_of as') (receipts_of (set as' i b))
same_receipts as' i a b h same =
    subst (λ l. Regrouped l (receipts_of (set as' i b))) (append-nil (receipts_of as'))
    (set_receipts as' i a b [] h
    (regrouped_along (append-nil a.receipts ∙ sym same)
    (regrouped_self (a.receipts ++ []))))

after_receipts :
    (as' : List Actor) (i : ℕ) (a : Actor) (p : Phase) (made : Option Receipt) (log : List Receipt)
    → slice_get as' i ≡ Some a
    → Regrouped log (receipts_of as')
    → Regrouped (logged log made) (receipts_of (set as' i (actor_after a p made)))
after_receipts as' i a p None log h g =
    twice g (same_receipts as' i a (actor_after a p None) h refl)
after_receipts as' i a p (Some r) log h g =
    twice (regrouped_behind (r ∷ []) g)
    (set_receipts as' i a (actor_after a p (Some r)) (r ∷ []) h
    (regrouped_self (a.receipts ++ r ∷ [])))

-- ---- the frame
-- Actor i takes a step from the entry x on, which leaves the result t.
pub record Change (m : Machine) (e i : ℕ) (x : Entry) (a : Actor) (t : StepResult) : Type 0 where
  pub here : slice_get m.entries e ≡ Some x
  pub me : slice_get m.actors i ≡ Some a
  pub live : a.live ≡ true
  pub entry : EntryOk t.entry
  pub mine : (e' : ℕ) → IsOn e' t.phase → e' ≡ e
  pub ok : PhaseOk t.phase t.entry
  pub keeps :
      (j : ℕ) (b : Actor)
      → j ≢ i
      → slice_get m.actors j ≡ Some b
      → IsOn e b.phase
      → PhaseOk b.phase x
      → PhaseOk b.phase t.entry
  pub sole :
      HoldsEntry e t.phase
      → (j : ℕ) (b : Actor)
      → j ≢ i
      → slice_get m.actors j ≡ Some b
      → ¬ HoldsEntry e b.phase
  pub locks :
      t.entry.control.locked ≡ true
      → HoldsEntry e t.phase ⊎ ((x.control.locked ≡ true) × ¬ HoldsEntry e a.phase)
  pub before : (e' : ℕ) → HoldsEntry e' a.phase → e' ≡ e
  pub tells : Tells e x.published t.made t.entry.published

-- The machine with an entry and an actor instead of the old ones.
abbrev pub put_both : Machine → ℕ → Entry → ℕ → Actor → Machine
put_both m e x i a =
    record { opening = m.opening; entries = set m.entries e x; actors = set m.actors i a }

module _ (opening : List State) (m : Machine) (log : List Receipt) (e i : ℕ) (x : Entry) (a : Actor)
    (t : StepResult) (k : Kept opening m log) (z : Change m e i x a t) where
  abbrev y : Entry
  y = t.entry

  abbrev a' : Actor
  a' = actor_after a t.phase t.made

  phase_is : a'.phase ≡ t.phase
  phase_is = after_phase a t.phase t.made

  mine' : (e' : ℕ) → IsOn e' a'.phase → e' ≡ e
  mine' e' on = z.mine e' (subst (IsOn e') phase_is on)

  ok' : PhaseOk a'.phase y
  ok' = subst (λ p. PhaseOk p y) (sym phase_is) z.ok

  entries_kept : (e' : ℕ) (w : Entry) → slice_get (set m.entries e y) e' ≡ Some w → EntryOk w
  entries_kept e' w at =
      ⊎_elim (λ (p : (e' ≡ e) × (y ≡ w)). subst EntryOk p.1 z.entry)
      (λ (p : (e' ≢ e) × (slice_get m.entries e' ≡ Some w)). k.entries e' w p.1)
      (at_set m.entries e e' y w at)

  mine_kept :
      (e' : ℕ) (w : Entry)
      → IsOn e' a'.phase
      → slice_get (set m.entries e y) e' ≡ Some w
      → PhaseOk a'.phase w
  mine_kept e' w on at =
      ⊎_elim (λ (p : (e' ≡ e) × (y ≡ w)). subst (PhaseOk a'.phase) p.1 ok')
      (λ (p : (e' ≢ e) × (slice_get m.entries e' ≡ Some w)). absurd (p.0 (mine' e' on)))
      (at_set m.entries e e' y w at)

  other_kept :
      (j e' : ℕ) (b : Actor) (w : Entry)
      → j ≢ i
      → slice_get m.actors j ≡ Some b
      → IsOn e' b.phase
      → slice_get (set m.entries e y) e' ≡ Some w
      → PhaseOk b.phase w
  other_kept j e' b w other is on at =
      ⊎_elim
      (λ (p : (e' ≡ e) × (y ≡ w)).
      let on' : IsOn e b.phase = subst (λ n. IsOn n b.phase) p.0 on in
      subst (PhaseOk b.phase) p.1 (z.keeps j b other is on' (k.actors j e b x is on' z.here)))
      (λ (p : (e' ≢ e) × (slice_get m.entries e' ≡ Some w)). k.actors j e' b w is on p.1)
      (at_set m.entries e e' y w at)

  actors_kept :
      (j e' : ℕ) (b : Actor) (w : Entry)
      → slice_get (set m.actors i a') j ≡ Some b
      → IsOn e' b.phase
      → slice_get (set m.entries e y) e' ≡ Some w
      → PhaseOk b.phase w
  actors_kept j e' b w is on at =
      ⊎_elim
      (λ (p : (j ≡ i) × (a' ≡ b)).
      subst (λ (q : Actor). IsOn e' q.phase → PhaseOk q.phase w) p.1 (λ o. mine_kept e' w o at)
      on)
      (λ (p : (j ≢ i) × (slice_get m.actors j ≡ Some b)). other_kept j e' b w p.0 p.1 on at)
      (at_set m.actors i j a' b is)

  abbrev IsHeld : ℕ → List Actor → Type 0
  IsHeld e' actors = (j : ℕ) × (b : Actor) × (slice_get actors j ≡ Some b) × HoldsEntry e' b.phase

  old_holder :
      (e' : ℕ) → ¬ HoldsEntry e' a.phase → IsHeld e' m.actors → IsHeld e' (set m.actors i a')
  old_holder e' free h =
      let other : h.0 ≢ i = λ q. free
      (subst (λ (v : Actor). HoldsEntry e' v.phase)
      (same_at m.actors i h.1 a (subst (λ n. slice_get m.actors n ≡ Some h.1) q h.2) z.me)
      h.3) in
      (h.0, h.1, set_else m.actors i h.0 a' other ∙ h.2, h.3)

  held_kept :
      (e' : ℕ) (w : Entry)
      → slice_get (set m.entries e y) e' ≡ Some w
      → w.control.locked ≡ true
      → IsHeld e' (set m.actors i a')
  held_kept e' w at locked =
      ⊎_elim {C = IsHeld e' (set m.actors i a')}
      (λ (p : (e' ≡ e) × (y ≡ w)). subst (λ n. IsHeld n (set m.actors i a')) (sym p.0)
      (⊎_elim {C = IsHeld e (set m.actors i a')}
      (λ (h : HoldsEntry e t.phase).
      (i, a', set_found m.actors i a a' z.me, subst (HoldsEntry e) (sym phase_is) h))
      (λ (h : (x.control.locked ≡ true) × ¬ HoldsEntry e a.phase).
      old_holder e h.1 (k.held e x z.here h.0))
      (z.locks (ap (λ (v : Entry). v.control.locked) p.1 ∙ locked))))
      (λ (p : (e' ≢ e) × (slice_get m.entries e' ≡ Some w)).
      old_holder e' (λ h. p.0 (z.before e' h)) (k.held e' w p.1 locked))
      (at_set m.entries e e' y w at)

  mine_alone :
      (e' j : ℕ) (b : Actor)
      → HoldsEntry e' a'.phase
      → j ≢ i
      → slice_get m.actors j ≡ Some b
      → ¬ HoldsEntry e' b.phase
  mine_alone e' j b mine other is theirs =
      let e_is = mine' e' (lock_is_on e' a'.phase mine) in
      z.sole (subst (HoldsEntry e) phase_is (subst (λ n. HoldsEntry n a'.phase) e_is mine)) j b
      other is
      (subst (λ n. HoldsEntry n b.phase) e_is theirs)

  one_kept :
      (e' j l : ℕ) (b d : Actor)
      → slice_get (set m.actors i a') j ≡ Some b
      → slice_get (set m.actors i a') l ≡ Some d
      → HoldsEntry e' b.phase
      → HoldsEntry e' d.phase
      → j ≡ l
  one_kept e' j l b d is is' h h' =
      ⊎_elim {C = j ≡ l}
      (λ (p : (j ≡ i) × (a' ≡ b)).
      let mine : HoldsEntry e' a'.phase = subst (λ (q : Actor). HoldsEntry e' q.phase) (sym p.1) h
      in
      ⊎_elim {C = j ≡ l} (λ (q : (l ≡ i) × (a' ≡ d)). p.0 ∙ sym q.0)
      (λ (q : (l ≢ i) × (slice_get m.actors l ≡ Some d)).
      absurd (mine_alone e' l d mine q.0 q.1 h')) (at_set m.actors i l a' d is'))
      (λ (p : (j ≢ i) × (slice_get m.actors j ≡ Some b)).
      ⊎_elim {C = j ≡ l}
      (λ (q : (l ≡ i) × (a' ≡ d)).
      absurd
      (mine_alone e' j b (subst (λ (q : Actor). HoldsEntry e' q.phase) (sym q.1) h') p.0 p.1
      h))
      (λ (q : (l ≢ i) × (slice_get m.actors l ≡ Some d)). k.one e' j l b d p.1 q.1 h h')
      (at_set m.actors i l a' d is')) (at_set m.actors i j a' b is)

  follows : Follows x.published y.published
  follows = tells_follows e x.published t.made y.published z.tells

  since_kept :
      (e' : ℕ) (s : State) (w : Entry)
      → slice_get opening e' ≡ Some s
      → slice_get (set m.entries e y) e' ≡ Some w
      → Follows s w.published
  since_kept e' s w from at =
      ⊎_elim
      (λ (p : (e' ≡ e) × (y ≡ w)).
      subst (λ (q : Entry). Follows s q.published) p.1
      (follows_on s x.published y.published
      (k.since e s x (subst (λ n. slice_get opening n ≡ Some s) p.0 from) z.here)
      follows))
      (λ (p : (e' ≢ e) × (slice_get m.entries e' ≡ Some w)). k.since e' s w from p.1)
      (at_set m.entries e e' y w at)

  chain_kept :
      (e' : ℕ) (s : State) (w : Entry)
      → slice_get opening e' ≡ Some s
      → slice_get (set m.entries e y) e' ≡ Some w
      → IsLegal s (on_entry e' (logged log t.made)) w.published
  chain_kept e' s w from at =
      ⊎_elim
      (λ (p : (e' ≡ e) × (y ≡ w)).
      subst (λ (q : ℕ × Entry). IsLegal s (on_entry q.0 (logged log t.made)) q.1.published)
      (λ j. (sym p.0 j, p.1 j))
      (let from' = subst (λ n. slice_get opening n ≡ Some s) p.0 from in
      chain_here e s x.published t.made y.published log z.tells (k.chain e s x from' z.here)))
      (λ (p : (e' ≢ e) × (slice_get m.entries e' ≡ Some w)).
      subst (λ l. IsLegal s l w.published)
      (sym (chain_there e e' x.published t.made y.published log z.tells p.0))
      (k.chain e' s w from p.1)) (at_set m.entries e e' y w at)

  old_line :
      (j n : ℕ) (b : Actor) (l : Sighting) (w : Entry)
      → slice_get m.actors j ≡ Some b
      → slice_get b.lines n ≡ Some l
      → slice_get (set m.entries e y) l.entry ≡ Some w
      → Holds (as_line l) w.published
  old_line j n b l w is on at = ⊎_elim {C = Holds (as_line l) w.published}
      (λ (p : (l.entry ≡ e) × (y ≡ w)).
      subst (λ (q : Entry). Holds (as_line l) q.published) p.1
      (holds_on (as_line l) x.published y.published follows
      (k.lines j n b l x is on
      (subst (λ v. slice_get m.entries v ≡ Some x) (sym p.0) z.here))))
      (λ (p : (l.entry ≢ e) × (slice_get m.entries l.entry ≡ Some w)). k.lines j n b l w is on p.1)
      (at_set m.entries e l.entry y w at)

  lines_kept :
      (j n : ℕ) (b : Actor) (l : Sighting) (w : Entry)
      → slice_get (set m.actors i a') j ≡ Some b
      → slice_get b.lines n ≡ Some l
      → slice_get (set m.entries e y) l.entry ≡ Some w
      → Holds (as_line l) w.published
  lines_kept j n b l w is on at = ⊎_elim {C = Holds (as_line l) w.published}
      (λ (p : (j ≡ i) × (a' ≡ b)).
      ⊎_elim {C = Holds (as_line l) w.published}
      (λ (q : (h : ℕ) × (slice_get a.lines h ≡ Some l)). old_line i q.0 a l w z.me q.1 at)
      (λ (q : (l.entry ≡ e) × Holds (as_line l) y.published).
      subst (λ (v : Entry). Holds (as_line l) v.published)
      (same_at (set m.entries e y) e y w (set_found m.entries e x y z.here)
      (subst (λ v. slice_get (set m.entries e y) v ≡ Some w) q.0 at)) q.1)
      (after_lines a t.phase t.made e x.published y.published z.tells n l
      (subst (λ (v : Actor). slice_get v.lines n ≡ Some l) (sym p.1) on)))
      (λ (p : (j ≢ i) × (slice_get m.actors j ≡ Some b)). old_line j n b l w p.1 on at)
      (at_set m.actors i j a' b is)

  quiet_kept :
      (j : ℕ) (b : Actor) → slice_get (set m.actors i a') j ≡ Some b → b.live ≡ false → b ≡ nobody
  quiet_kept j b is dead =
      ⊎_elim {C = b ≡ nobody}
      (λ (p : (j ≡ i) × (a' ≡ b)).
      absurd
      (false≢true
      (sym dead
      ∙ ap (λ (q : Actor). q.live) (sym p.1)
      ∙ after_live a t.phase t.made
      ∙ z.live)))
      (λ (p : (j ≢ i) × (slice_get m.actors j ≡ Some b)). k.quiet j b p.1 dead)
      (at_set m.actors i j a' b is)

  pub both_kept : Kept opening (put_both m e y i a') (logged log t.made)
  both_kept = record {
    opens = k.opens;
    size = length-set m.entries e y ∙ k.size;
    quiet = quiet_kept;
    entries = entries_kept;
    actors = actors_kept;
    held = held_kept;
    one = one_kept;
    lines = lines_kept;
    since = since_kept;
    chain = chain_kept;
    listed = after_receipts m.actors i a t.phase t.made log z.me k.listed;
  }
