-- What a pass with all shares closes.
use Rattle.std.specs.Prelude.{slice_get, Contains}
use Rattle.std.proofs.Common.{◌≡◌, ℕ, zero, suc, ◌+◌, ◌*◌, ◌<◌, ◌≤◌, true, false, List, [], ◌∷◌, ◌++◌, length, length-append, get_or, inl, inr, ⊎_elim, refl, sym, ap, ◌∙◌, subst, arith, Some}
use Rattle.std.proofs.lemmas.Bool.{false≢true, false_from_ne_true}
use mathlib.Core.Logic.{dite}
use native.Mathlib.Decide.{ℕ_discrete}
use mathlib.Core.Option.{some, some-injective, some-ne-none}
use Rattle.atomic_table.specs.Table.{State as TableState, Final, Seen}
use Rattle.entry_model.specs.State.{State}
use Rattle.entry_model.specs.declared.line.Line.{Line}
use Rattle.entry_model.specs.CachedLines.{Holds}
use Rattle.entry_model.specs.History.{IsLegal, history, pair_of}
use Rattle.entry_model.specs.Fronts.{front_at, IsGone}
use Rattle.entry_model.specs.Run.{state_at}
use Rattle.lock_core.specs.declared.control.Control.{Control}
use Rattle.lock_core.specs.declared.entry.Entry.{Entry}
use Rattle.lock_core.specs.declared.phase.Phase.TheVariants.{Idle}
use Rattle.lock_core.specs.declared.step.Step.{Step}
use Rattle.lock_core.specs.Words.{state_of}
use Rattle.lock_core.specs.Machine.{Actor, Machine, opening_machine, HoldsEntry}
use Rattle.lock_core.specs.Runs.{run, receipts_of}
use Rattle.lock_core.specs.Laws.{published_state, sighting_by, HasSeen}
use Rattle.lock_core.proofs.Opening.{legal_history, seen_line}
use Rattle.entry_lock.specs.declared.rule.View.{View}
use Rattle.entry_lock.specs.declared.rule.Opening.{Opening}
use Rattle.entry_lock.specs.Layout.{control_of_word, control_place, entry_state, entry_states}
use Rattle.entry_lock.specs.Views.{states_of, first_number}
use Rattle.entry_lock.specs.Rule.{IsHead, ShowsSteps, ShowsRun, machine_after}
use Rattle.entry_lock.specs.OwnSteps.{steps_by, AreAllowed}
use Rattle.entry_lock.specs.SeenLines.{IsSeen}
use Rattle.entry_lock.specs.PassInvariants.{IsActing}
use Rattle.entry_lock.specs.Closing.{Closes}
use Rattle.entry_lock.proofs.Bits.{control_is}
use Rattle.entry_lock.proofs.MachineMoves.{actor_is, entry_is}
use Rattle.entry_lock.proofs.SolePass.{made_all, unlocked}
use Rattle.entry_lock.proofs.PassSteps.{pair_high, kept, me, entry_there, has_number, numbered}
use lib.ListN.{get_elem?}

-- ---- lists
pub states_length : (words : List ℕ) (n : ℕ) → length (entry_states words n) ≡ n
states_length words zero = refl
states_length words (suc n) =
    length-append (entry_states words n) (entry_state words n ∷ [])
    ∙ (let e = states_length words n in omega arith)

at_front : (xs ys : List State) (i : ℕ) → i < length xs → state_at (xs ++ ys) i ≡ state_at xs i
at_front [] ys i h = absurd (omega arith)
at_front (x ∷ xs) ys zero h = refl
at_front (x ∷ xs) ys (suc i) h = at_front xs ys i (omega arith)

at_end : (xs : List State) (y : State) (i : ℕ) → i ≡ length xs → state_at (xs ++ y ∷ []) i ≡ y
at_end [] y zero h = refl
at_end [] y (suc i) h = absurd (omega arith)
at_end (x ∷ xs) y zero h = absurd (omega arith)
at_end (x ∷ xs) y (suc i) h = at_end xs y i (omega arith)

pub states_at :
    (words : List ℕ) (n e : ℕ) → e < n → state_at (entry_states words n) e ≡ entry_state words e
states_at words zero e h = absurd (omega arith)
states_at words (suc n) e h =
    dite {C = state_at (entry_states words (suc n)) e ≡ entry_state words e} (ℕ_discrete e n)
    (λ same.
    at_end (entry_states words n) (entry_state words n) e (same ∙ sym (states_length words n))
    ∙ ap (entry_state words) (sym same))
    (λ other.
    at_front (entry_states words n) (entry_state words n ∷ []) e
    (let l = states_length words n in omega arith)
    ∙ states_at words n e (omega arith))

module _ (key : Opening) (s : TableState ℕ View) (steps : List (ℕ × Step))
    (h : ShowsSteps key steps s.words s.views) (id n : ℕ) (ns : List ℕ) (v : View)
    (at : get_elem? s.views id ≡ some v) (mine : v.numbers ≡ n ∷ ns) where
  abbrev C : Machine
  C = machine_after key steps

  -- What a pass has seen holds of its entry.
  pub seen_holds :
      (line : Line) (x : Entry)
      → line.entry < length (states_of key)
      → slice_get C.entries line.entry ≡ Some x
      → IsSeen v.actor.lines (states_of key) line
      → Holds line x.published
  seen_holds line x inside here seen =
      let k = kept key s steps h id n ns v at mine in
      let seen' :
      HasSeen C n line =
      ⊎_elim {C = HasSeen C n line}
      (λ (q : Contains v.actor.lines (sighting_by line)).
      inl
      (subst (λ (a : Actor). Contains a.lines (sighting_by line))
      (sym (actor_is C n v.actor (me key s steps h id n ns v at mine))) q))
      (λ (q : Holds line (state_at (states_of key) line.entry)).
      inr (subst (λ l. Holds line (state_at l line.entry)) (sym k.1.opens) q)) seen in
      subst (λ (e : Entry). Holds line e.published) (entry_is C line.entry x here)
      (seen_line (states_of key) h.shows.fair key.passes steps n line inside seen')

  module _ (all : length v.numbers ≡ key.passes) (idle : v.actor.phase ≡ Idle) where
    module _ (e : ℕ) (inside : e < length (states_of key)) where
      abbrev X : Entry
      X = (entry_there key s steps h id n ns v at mine e inside).0

      here : slice_get C.entries e ≡ Some X
      here = (entry_there key s steps h id n ns v at mine e inside).1

      unshut : X.control.shut ≡ false
      unshut = let ok = (kept key s steps h id n ns v at mine).1.entries e X here in
          let l = unlocked key s steps h id n ns v at mine all e X here
          (λ q. subst (HoldsEntry e) idle q) in
          false_from_ne_true X.control.shut (λ q. false≢true (sym l ∙ ok.shut q))

      published_is : entry_state s.words e ≡ X.published
      published_is =
          let show = h.shows.words e X here in
          let ok = (kept key s steps h id n ns v at mine).1.entries e X here in
          let control : control_of_word (get_or s.words (control_place e) 0) ≡ X.control =
          control_is (get_or s.words (control_place e) 0) X.control (show.control, ok.low) in
          (λ i. state_of (control i) (show.first i) (show.second i)) ∙ sym (ok.free unshut)

      legal_here : IsLegal (state_at (states_of key) e) (history e v.actor.receipts) X.published
      legal_here =
          subst
          (λ (z : Entry).
          IsLegal (state_at (states_of key) e) (history e v.actor.receipts) z.published)
          (entry_is C e X here)
          (subst (λ r. IsLegal (state_at (states_of key) e) (history e r) (published_state C e))
          (made_all key s steps h id n ns v at mine all)
          (legal_history (states_of key) h.shows.fair key.passes steps e inside))

      gone_here :
          (line : Line) → line.entry ≡ e → IsGone v.fronts line → line.stamp < X.published.stamp
      gone_here line on gone =
          let front = ap (front_at v.fronts) on in let high = pair_high X.published in
          ⊎_elim {C = line.stamp < X.published.stamp}
          (λ (l : front_at v.fronts e ≤ pair_of X.published). omega arith)
          (λ
          (t :
          (X.control.shut ≡ true)
          × (front_at v.fronts e ≤ (X.published.stamp + 1) * 4)
          × ¬ HoldsEntry e v.actor.phase).
          absurd (false≢true (sym unshut ∙ t.0))) (h.shows.fronts id e v X at here)

    pub closes_at : Closes (states_of key) v (entry_states s.words (length (states_of key)))
    closes_at =
        let count : ℕ = length (states_of key) in
        let passes_are : v.passes ≡ key.passes =
        (h.shows.whole id v at (has_number key s steps h id n ns v at mine)).0 in
        let is : (e : ℕ) (inside : e < count) → state_at (entry_states s.words count) e ≡
        (X e inside).published = λ e inside. states_at s.words count e inside ∙ published_is e
        inside in
        record {
          size = states_length s.words count;
          all = (
            steps,
            subst (λ n. AreAllowed (opening_machine (states_of key) n) steps) (sym passes_are)
                h.allowed,
            ap (λ l. steps_by (first_number l) steps) mine
                ∙ sym (h.own id n v at (subst (λ l. IsHead l n) (sym mine) refl)),
            (λ i. receipts_of (run (opening_machine (states_of key) (passes_are i)) steps).actors)
                ∙ made_all key s steps h id n ns v at mine all,
            λ e inside.
                (λ i.
                published_state (run (opening_machine (states_of key) (passes_are i)) steps) e)
                ∙ ap (λ (z : Entry). z.published) (entry_is C e (X e inside) (here e inside))
                ∙ sym (is e inside),
          );
          legal =
              λ e inside.
              subst (IsLegal (state_at (states_of key) e) (history e v.actor.receipts))
              (sym (is e inside)) (legal_here e inside);
          seen =
              λ line inside seen.
              subst (Holds line) (sym (is line.entry inside))
              (seen_holds line (X line.entry inside) inside (here line.entry inside) seen);
          gone =
              λ line inside gone.
              subst (λ (z : State). line.stamp < z.stamp) (sym (is line.entry inside))
              (gone_here line.entry inside line refl gone);
        }

pub closes :
    (key : Opening) (id : ℕ) (v : View) (words slots : List ℕ)
    → IsActing v
    → v.actor.phase ≡ Idle
    → length v.numbers ≡ key.passes
    → Final (Seen (ShowsRun key) id v) words slots
    → Closes (states_of key) v (entry_states words (length (states_of key)))
closes key id v words slots acts idle all final =
    let s = final.0 in
    let a = numbered v acts in
    subst (λ w. Closes (states_of key) v (entry_states w (length (states_of key)))) final.2
    (closes_at key s final.1.0.0 final.1.0.1 id a.0 a.1 v final.1.1 a.2 all idle)

-- ---- the loop that closes
found_at : (words : List ℕ) (i n : ℕ) → get_elem? words i ≡ some n → get_or words i 0 ≡ n
found_at [] i n h = absurd (some-ne-none n (sym h))
found_at (x ∷ xs) zero n h = some-injective x n h
found_at (x ∷ xs) (suc i) n h = found_at xs i n h

pub next_states :
    (words : List ℕ) (e k l a b c : ℕ) (control : Control) (old new : List State) (value : State)
    → k ≡ e
    → l ≡ e + 1
    → get_elem? words (3 * k + 1) ≡ some a
    → get_elem? words (3 * k + 2) ≡ some b
    → get_elem? words (3 * k + 3) ≡ some c
    → control ≡ control_of_word a
    → value ≡ state_of control b c
    → old ≡ entry_states words e
    → new ≡ old ++ value ∷ []
    → new ≡ entry_states words l
next_states words e k l a b c control old new value same next is_a is_b is_c means value_is old_is
    new_is =
    let p = ap (λ i. get_or words (3 * i + 1) 0) (sym same) ∙ found_at words (3 * k + 1) a is_a in
    let q = ap (λ i. get_or words (3 * i + 2) 0) (sym same) ∙ found_at words (3 * k + 2) b is_b in
    let r = ap (λ i. get_or words (3 * i + 3) 0) (sym same) ∙ found_at words (3 * k + 3) c is_c in
    let made : value ≡ entry_state words e = value_is ∙
    (λ i. state_of ((means ∙ ap control_of_word (sym p)) i) (sym q i) (sym r i)) in
    new_is
    ∙ (λ i. old_is i ++ made i ∷ [])
    ∙ ap (entry_states words) (let t : suc e ≡ l = omega arith in t)
