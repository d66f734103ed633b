-- A step of a pass on an entry keeps the rule.
use Rattle.std.specs.Prelude.{slice_get}
use Rattle.std.proofs.Common.{◌≡◌, ◌≢◌, ◌⊎◌, ℕ, ◌+◌, ◌*◌, ◌<◌, ◌≤◌, true, false, List, [], ◌∷◌, length, set, length-set, inl, inr, ⊎_elim, refl, sym, ap, ◌∙◌, subst, arith, Option, Some, None}
use Rattle.std.proofs.lemmas.Bool.{false≢true}
use Rattle.std.proofs.lemmas.Option.{slice_get_within}
use mathlib.Core.Option.{some}
use Rattle.atomic_table.specs.Table.{State as TableState}
use Rattle.entry_model.specs.State.{State}
use Rattle.entry_model.specs.declared.receipt.Receipt.{Receipt}
use Rattle.entry_model.specs.Receipt.{after_of}
use Rattle.entry_model.specs.History.{pair_of}
use Rattle.entry_model.specs.Fronts.{front_at, fronts_after, IsAhead}
use Rattle.entry_model.proofs.FrontLaws.{front_set}
use Rattle.entry_model.proofs.Sorted.{bits_low}
use Rattle.lock_core.specs.declared.doing.Doing.{Doing}
use Rattle.lock_core.specs.declared.entry.Entry.{Entry}
use Rattle.lock_core.specs.declared.phase.Phase.{Phase}
use Rattle.lock_core.specs.declared.phase.Phase.TheVariants.{HeldShut, Looked}
use Rattle.lock_core.specs.declared.step.Step.{Step}
use Rattle.lock_core.specs.declared.step_result.StepResult.{StepResult}
use Rattle.lock_core.specs.Machine.{Actor, Machine, nobody, words_seen, HoldsEntry}
use Rattle.lock_core.specs.Steps.{actor_after, entry_of, fits, step_result, names_entry}
use Rattle.lock_core.specs.Runs.{run}
use Rattle.lock_core.proofs.Kept.{IsOn, Kept}
use Rattle.lock_core.proofs.Moves.{Tells, Change, put_both, lock_is_on, after_phase}
use Rattle.lock_core.proofs.Opening.{run_kept}
use Rattle.lock_core.proofs.Whole.{result_change}
use Rattle.entry_lock.specs.declared.rule.View.{View}
use Rattle.entry_lock.specs.declared.rule.Opening.{Opening}
use Rattle.entry_lock.specs.Views.{states_of}
use Rattle.entry_lock.specs.Rule.{ActsAs, WordsShow, AreStored, FrontFits, Shows, ShowsSteps, machine_after}
use Rattle.entry_lock.specs.PassInvariants.{IsActing}
use Rattle.entry_lock.specs.Laws.{IsOnEntry}
use Rattle.entry_lock.proofs.MachineMoves.{Moves, may, moved_turn}
use Rattle.entry_lock.proofs.TakenSteps.{own_after}
use Rattle.entry_lock.proofs.Frame.{Fronts, other_phase, Frame, apart_from, shows_put}
use lib.ListN.{get_elem?}
use Rattle.lock_core.proofs.FrontsKept.{pair_rises}

-- ---- pairs
pub pair_low : (s : State) → s.stamp * 4 ≤ pair_of s
unfolding pair_of
pair_low s = omega arith

pub pair_high : (s : State) → pair_of s < (s.stamp + 1) * 4
unfolding pair_of
pair_high s = let b = bits_low s.referenced s.changed in omega arith

-- ---- fronts
-- The fronts after a step by which this receipt was made, or none.
abbrev pub fronts_by : List ℕ → Option Receipt → List ℕ
fronts_by fronts None = fronts
fronts_by fronts (Some r) = fronts_after fronts r

-- Where a receipt is made or the entry is held, the entry wasn't shut, or the pass held it.
abbrev pub IsCalm : ℕ → Entry → Phase → StepResult → Type 0
IsCalm e x p t =
    ((t.made ≡ None) × ¬ HoldsEntry e t.phase) ⊎ ((x.control.shut ≡ false) ⊎ HoldsEntry e p)

-- A shut entry stays shut, and the state that it counts with stays, or its stamp rises.
abbrev pub Lifts : Entry → Entry → Type 0
Lifts x y =
    x.control.shut ≡ true
    → ((y.control.shut ≡ true) × (y.published ≡ x.published))
    ⊎ (x.published.stamp + 1 ≤ y.published.stamp)

none_some : (r : Receipt) → Some r ≡ None → ⊥
none_some r h = cc

left_of :
    (e : ℕ) (p : Phase) (x : Entry) (front : ℕ)
    → (x.control.shut ≡ false) ⊎ HoldsEntry e p
    → FrontFits p e x front
    → front ≤ pair_of x.published
left_of e p x front calm ok =
    ⊎_elim {C = front ≤ pair_of x.published} (λ (l : front ≤ pair_of x.published). l)
    (λ (t : (x.control.shut ≡ true) × (front ≤ (x.published.stamp + 1) * 4) × ¬ HoldsEntry e p).
    ⊎_elim {C = front ≤ pair_of x.published}
    (λ (free : x.control.shut ≡ false). absurd (false≢true (sym free ∙ t.0)))
    (λ (holds : HoldsEntry e p). absurd (t.2 holds)) calm) ok

lifted :
    (e : ℕ) (x y : Entry) (made : Option Receipt)
    → Tells e x.published made y.published
    → Lifts x y
    → (p : Phase) (front : ℕ)
    → FrontFits p e x front
    → FrontFits p e y front
lifted e x y made tells lifts p front ok =
    let up = pair_rises e x.published made y.published tells in
    ⊎_elim {C = FrontFits p e y front} (λ (l : front ≤ pair_of x.published). inl (omega arith))
    (λ (t : (x.control.shut ≡ true) × (front ≤ (x.published.stamp + 1) * 4) × ¬ HoldsEntry e p).
    ⊎_elim {C = FrontFits p e y front}
    (λ (q : (y.control.shut ≡ true) × (y.published ≡ x.published)).
    inr (q.0, (let s = ap (λ (z : State). z.stamp) q.1 in let l = t.1 in omega arith), t.2))
    (λ (q : x.published.stamp + 1 ≤ y.published.stamp).
    inl (let l = t.1 in let b = pair_low y.published in omega arith)) (lifts t.0)) ok

-- The front of the entry after the step.
mine_by :
    (e : ℕ) (x y : Entry) (p q : Phase) (fronts : List ℕ) (made : Option Receipt)
    → Tells e x.published made y.published
    → Lifts x y
    → FrontFits p e x (front_at fronts e)
    → ((made ≡ None) × ¬ HoldsEntry e q) ⊎ ((x.control.shut ≡ false) ⊎ HoldsEntry e p)
    → FrontFits q e y (front_at (fronts_by fronts made) e)
mine_by e x y p q fronts None tells lifts ok calm =
    let up = pair_rises e x.published None y.published tells in
    ⊎_elim {C = FrontFits q e y (front_at fronts e)}
    (λ (t : (◌≡◌ {A = Option Receipt} None None) × ¬ HoldsEntry e q).
    other_phase p q e y (front_at fronts e) t.1
    (lifted e x y None tells lifts p (front_at fronts e) ok))
    (λ (t : (x.control.shut ≡ false) ⊎ HoldsEntry e p).
    inl (let l = left_of e p x (front_at fronts e) t ok in omega arith)) calm
mine_by e x y p q fronts (Some r) tells lifts ok calm =
    let up = pair_rises e x.published (Some r) y.published tells in
    ⊎_elim {C = FrontFits q e y (front_at (fronts_after fronts r) e)}
    (λ (t : (Some r ≡ None) × ¬ HoldsEntry e q). absurd (none_some r t.0))
    (λ (t : (x.control.shut ≡ false) ⊎ HoldsEntry e p).
    inl (let l = left_of e p x (front_at fronts e) t ok in
    ⊎_elim {C = front_at (fronts_after fronts r) e ≤ pair_of y.published}
    (λ (same : front_at (fronts_after fronts r) e ≡ front_at fronts e). omega arith)
    (λ (new : (e ≡ r.entry) × (front_at (fronts_after fronts r) e ≡ pair_of (after_of r))).
    let a = ap pair_of tells.2 in let n = new.1 in omega arith)
    (front_set fronts r.entry (pair_of (after_of r)) e))) calm

level_by :
    (e : ℕ) (p q : State) (fronts : List ℕ) (made : Option Receipt)
    → Tells e p made q
    → (e' : ℕ)
    → e' ≢ e
    → front_at (fronts_by fronts made) e' ≡ front_at fronts e'
level_by e p q fronts None tells e' other = refl
level_by e p q fronts (Some r) tells e' other =
    ⊎_elim {C = front_at (fronts_after fronts r) e' ≡ front_at fronts e'}
    (λ (same : front_at (fronts_after fronts r) e' ≡ front_at fronts e'). same)
    (λ (new : (e' ≡ r.entry) × (front_at (fronts_after fronts r) e' ≡ pair_of (after_of r))).
    absurd (other (new.0 ∙ tells.0))) (front_set fronts r.entry (pair_of (after_of r)) e')

size_by : (fronts : List ℕ) (made : Option Receipt) → length (fronts_by fronts made) ≡ length fronts
size_by fronts None = refl
size_by fronts (Some r) = length-set fronts r.entry (pair_of (after_of r))

-- ---- a turn and the view after it
-- After the step the actor has its phase and its receipt, the fronts are those after that receipt,
-- and the rest of what the pass knows of the table stays.
pub record IsAfter (v w : View) (t : StepResult) : Type 0 where
  pub actor : w.actor ≡ actor_after v.actor t.phase t.made
  pub numbers : w.numbers ≡ v.numbers
  pub passes : w.passes ≡ v.passes
  pub opening : w.opening ≡ v.opening
  pub fronts : w.fronts ≡ fronts_by v.fronts t.made

-- What a kind of step has to show beside its turn.
pub record Takes (key : Opening) (words words' : List ℕ) (e : ℕ) (v w : View) (x : Entry)
    (t : StepResult) :
    Type 0 where
  pub after : IsAfter v w t
  pub long : length words' ≡ length words
  pub show : WordsShow words' e t.entry
  pub others : (e' : ℕ) (z : Entry) → e' ≢ e → WordsShow words e' z → WordsShow words' e' z
  pub stores : (d : Doing) → t.phase ≡ HeldShut d → AreStored w d t.entry
  pub keeps :
      HoldsEntry e v.actor.phase ⊎ ((t.entry.dword0 ≡ x.dword0) × (t.entry.dword1 ≡ x.dword1))
  pub alone :
      (d : Doing) → length v.numbers ≡ key.passes → t.phase ≡ Looked d → t.entry.control ≡ d.noted
  pub calm : IsCalm e x v.actor.phase t
  pub lifts : Lifts x t.entry

pub there : {A : Type 0} (l : List A) (i : ℕ) → i < length l → (a : A) × (slice_get l i ≡ Some a)
there [] i h = absurd (omega arith)
there (x ∷ xs) Rattle.std.proofs.Common.zero h = (x, refl)
there (x ∷ xs) (Rattle.std.proofs.Common.suc i) h = there xs i (omega arith)

module _ (key : Opening) (s : TableState ℕ View) (steps : List (ℕ × Step))
    (h : ShowsSteps key steps s.words s.views) (id n : ℕ) (ns : List ℕ) (v : View)
    (at : get_elem? s.views id ≡ some v) (mine : v.numbers ≡ n ∷ ns) where
  -- The machine after these steps.
  abbrev pub C : Machine
  C = machine_after key steps

  pub kept : (log : List Receipt) × Kept (states_of key) C log
  kept = run_kept (states_of key) h.shows.fair key.passes steps

  pub me : slice_get C.actors n ≡ Some v.actor
  me = subst (λ l. ActsAs C l v.actor) mine (h.shows.views id v at)

  pub entry_there :
      (e : ℕ) → e < length (states_of key) → (x : Entry) × (slice_get C.entries e ≡ Some x)
  entry_there e inside = there C.entries e (let k = kept.1.size in omega arith)

  pub inside_of : (e : ℕ) (x : Entry) → slice_get C.entries e ≡ Some x → e < length (states_of key)
  inside_of e x here =
      let t = slice_get_within C.entries e x here in let k = kept.1.size in omega arith

  pub has_number : 0 < length v.numbers
  has_number = let l = ap length mine in omega arith

  -- Nobody else has shut what this pass holds.
  lone :
      (e : ℕ)
      → HoldsEntry e v.actor.phase
      → (j : ℕ) (u : View) (d : Doing) (numbers : List ℕ)
      → u.numbers ≡ numbers
      → ◌≢◌ j id
      → get_elem? s.views j ≡ some u
      → u.actor.phase ≡ HeldShut d
      → d.entry ≢ e
  lone e holds j u d [] is other at' shut on =
      let a : u.actor ≡ nobody = subst (λ l. ActsAs C l u.actor) is (h.shows.views j u at') in
      let q : nobody.phase ≡ HeldShut d = ap (λ (z : Actor). z.phase) (sym a) ∙ shut in absurd cc
  lone e holds j u d (k ∷ ks) is other at' shut on =
      let theirs : slice_get C.actors k ≡ Some u.actor = subst (λ l. ActsAs C l u.actor) is
      (h.shows.views j u at') in
      apart_from key C s h.shows j id n k u v ns ks other at at' mine is
      (kept.1.one e k n u.actor v.actor theirs me (subst (HoldsEntry e) (sym shut) on)
      holds)

  module _ (e : ℕ) (w : View) (x : Entry) (t : StepResult) (words : List ℕ)
      (z : Change C e n x v.actor t) (k : Takes key s.words words e v w x t) where
    same_phase : w.actor.phase ≡ t.phase
    same_phase = ap (λ (a : Actor). a.phase) k.after.actor ∙ after_phase v.actor t.phase t.made

    on_this : (e' : ℕ) → IsOn e' w.actor.phase → e' ≡ e
    on_this e' on = z.mine e' (subst (IsOn e') same_phase on)

    fronts : Fronts e x t.entry v w
    fronts = record {
      mine =
          subst (λ (q : Phase × List ℕ). FrontFits q.0 e t.entry (front_at q.1 e))
          (λ i. (sym same_phase i, sym k.after.fronts i))
          (mine_by e x t.entry v.actor.phase t.phase v.fronts t.made z.tells k.lifts
          (h.shows.fronts id e v x at z.here) k.calm);
      level =
          λ e' other.
          ap (λ f. front_at f e') k.after.fronts
          ∙ level_by e x.published t.entry.published v.fronts t.made z.tells e' other;
      free =
          λ e' other holds.
          other (on_this e' (lock_is_on e' w.actor.phase holds));
      others = lifted e x t.entry t.made z.tells k.lifts;
    }

    frame : Frame key s id e v w x t.entry words
    frame = record {
      numbers = k.after.numbers;
      passes = k.after.passes;
      opening = k.after.opening;
      size = ap length k.after.fronts ∙ size_by v.fronts t.made;
      long = k.long;
      show = k.show;
      others = k.others;
      stores =
          λ d is.
          (on_this d.entry (subst (IsOn d.entry) (sym is) refl), k.stores d (sym same_phase ∙ is));
      keeps =
          λ j u d other is shut on.
          ⊎_elim {C = (t.entry.dword0 ≡ x.dword0) × (t.entry.dword1 ≡ x.dword1)}
          (λ (holds : HoldsEntry e v.actor.phase).
          absurd (lone e holds j u d u.numbers refl other is shut on)) (λ same. same) k.keeps;
      alone =
          λ d all is. (
            on_this d.entry (subst (IsOn d.entry) (sym is) refl),
            k.alone d (ap length (sym k.after.numbers) ∙ all) (sym same_phase ∙ is),
          );
      fronts = fronts;
    }

    -- The machine takes the step, the pass knows it, and the rule holds.
    pub turn_shown :
        (step : Step)
        → w.taken ≡ step ∷ v.taken
        → Moves C n step (put_both C e t.entry n (actor_after v.actor t.phase t.made))
        → ShowsSteps key ((n, step) ∷ steps) words (set s.views id w)
    unfolding run
    turn_shown step taken moves = record {
      shows =
          subst (λ (m : Machine). Shows key m words (set s.views id w))
          (sym (moves.is ∙ ap (put_both C e t.entry n) (sym k.after.actor)))
          (shows_put key C s h.shows id e n ns v w x t.entry words at mine z.here frame);
      allowed = (moves.allowed, h.allowed);
      own = own_after key s steps h id n ns v w at mine k.after.numbers step moves.on taken;
    }

    -- A receipt that the step makes isn't before the pass's front.
    pub turn_ahead : (r : Receipt) → t.made ≡ Some r → IsAhead v.fronts r
    turn_ahead r made =
        let tells : Tells e x.published (Some r) t.entry.published = subst
        (λ o. Tells e x.published o t.entry.published) made z.tells in
        let calm : (x.control.shut ≡ false) ⊎ HoldsEntry e v.actor.phase = ⊎_elim
        {C = (x.control.shut ≡ false) ⊎ HoldsEntry e v.actor.phase}
        (λ (q : (t.made ≡ None) × ¬ HoldsEntry e t.phase).
        absurd (none_some r (sym made ∙ q.0))) (λ c. c) k.calm in
        let low = left_of e v.actor.phase x (front_at v.fronts e) calm
        (h.shows.fronts id e v x at z.here) in
        let before = ap pair_of tells.1 in
        let here = ap (front_at v.fronts) tells.0 in omega arith

  -- A step by the pass's phase.
  pub change_of :
      (p : Phase) (step : Step) (x : Entry) (t : StepResult)
      → v.actor.live ≡ true
      → v.actor.phase ≡ p
      → slice_get C.entries (entry_of p step) ≡ Some x
      → fits x p step ≡ true
      → step_result (words_seen C v.actor (entry_of p step) x.control) x p step ≡ t
      → Change C (entry_of p step) n x v.actor t
  change_of p step x t live is here fit turn_is =
      subst (Change C (entry_of p step) n x v.actor) turn_is
      (result_change (states_of key) C kept.0 kept.1 n v.actor me live p step x is here fit)

  pub moves_of :
      (p : Phase) (step : Step) (x : Entry) (t : StepResult)
      → IsOnEntry step
      → names_entry C step ≡ true
      → v.actor.live ≡ true
      → v.actor.phase ≡ p
      → slice_get C.entries (entry_of p step) ≡ Some x
      → fits x p step ≡ true
      → step_result (words_seen C v.actor (entry_of p step) x.control) x p step ≡ t
      → Moves C n step (put_both C (entry_of p step) t.entry n (actor_after v.actor t.phase t.made))
  moves_of p step x t on names live is here fit turn_is = record {
    on = on;
    allowed = may C n v.actor step p x on names me live is here fit;
    is = moved_turn C n v.actor step p x on names me live is here fit t turn_is;
  }

nonempty : (l : List ℕ) → 0 < length l → (n : ℕ) × (ns : List ℕ) × (l ≡ n ∷ ns)
nonempty [] h = absurd (omega arith)
nonempty (n ∷ ns) h = (n, ns, refl)

pub numbered : (v : View) → IsActing v → (n : ℕ) × (ns : List ℕ) × (v.numbers ≡ n ∷ ns)
numbered v acts = nonempty v.numbers acts.some_share
