-- A pass with all shares closes a table to one list of states, which it can read word by word.
use Rattle.std.proofs.Common.{◌≡◌, ℕ, ◌<◌, Bool, true, false, if◌then◌else◌, List, [], ◌∷◌, length, get_or, refl, sym, ap, ◌∙◌, subst, arith}
use Rattle.std.proofs.lemmas.Bool.{false≢true}
use Rattle.std.proofs.lemmas.List.{set-get_or, ext_get_or}
use mathlib.Core.Option.{none}
use Rattle.atomic_table.specs.Table.{Me, keeps, step, Allows}
use Rattle.atomic_table.proofs.Lists.{set_again as view_again}
use Rattle.entry_model.specs.State.{State, empty_state}
use Rattle.entry_model.specs.declared.receipt.Receipt.{Receipt}
use Rattle.entry_model.specs.Receipt.{after_of}
use Rattle.entry_model.specs.History.{IsLegal, history}
use Rattle.entry_model.specs.Run.{state_at}
use Rattle.lock_core.specs.declared.control.Control.{Control}
use Rattle.lock_core.specs.declared.phase.Phase.TheVariants.{Idle}
use Rattle.lock_core.specs.Words.{without_bits, state_of}
use Rattle.entry_lock.specs.declared.rule.View.{View}
use Rattle.entry_lock.specs.declared.rule.Opening.{Opening}
use Rattle.entry_lock.specs.Layout.{control_of_word, control_place, data_place, entry_state, entry_states}
use Rattle.entry_lock.specs.Rule.{ShowsRun}
use Rattle.entry_lock.specs.PassInvariants.{IsActing}
use Rattle.entry_lock.specs.Closing.{Closes}
use Rattle.entry_lock.specs.Resting.{IsClosingWord, RestPlay, Rests, StatesAtRestClose}
use Rattle.entry_lock.proofs.PassSteps.{numbered}
use Rattle.entry_lock.proofs.Closings.{states_at, closes_at}

-- ---- one closing
legal_end :
    (a b c : State) (rs : List Receipt) → IsLegal a rs b → IsLegal a rs c → b ≡ c
legal_end a b c [] p q = p ∙ sym q
legal_end a b c (r ∷ rs) p q = legal_end (after_of r) b c rs p.1 q.1

-- Two closings of a pass have the same state of an entry.
closed_alike :
    (opening c d : List State) (v : View) (e : ℕ)
    → e < length opening
    → Closes opening v c
    → Closes opening v d
    → state_at c e ≡ state_at d e
closed_alike opening c d v e inside p q =
    legal_end (state_at opening e) (state_at c e) (state_at d e) (history e v.actor.receipts)
    (p.legal e inside) (q.legal e inside)

pub rests_close : StatesAtRestClose
rests_close opening closing v some long rests =
    let first : Rests opening v 0 (state_at closing 0) = rests 0 some in
    let same : (e : ℕ) → e < length first.0 → state_at first.0 e ≡ state_at closing e =
    λ e inside.
    let there : e < length opening = let l = first.1.size in omega arith in
    let here : Rests opening v e (state_at closing e) = rests e there in
    closed_alike opening first.0 here.0 v e there first.1 here.1 ∙ here.2 in
    subst (Closes opening v)
    (ext_get_or (empty_state 0) first.0 closing (first.1.size ∙ sym long) same) first.1

-- ---- one state by three words
word_by :
    (k l : Bool) (a c : ℕ)
    → k ≡ l
    → (if k then a else 0) ≡ (if l then c else 0)
    → (if k then a else 0) ≡ (if k then c else 0)
word_by true true a c same is = is
word_by true false a c same is = absurd (false≢true (sym same))
word_by false l a c same is = refl

-- Where an entry has one state in three lists of words, that is the state of a word of each.
mixed :
    (ws us vs : List ℕ) (e : ℕ)
    → entry_state ws e ≡ entry_state us e
    → entry_state ws e ≡ entry_state vs e
    → entry_state ws e
    ≡ state_of (control_of_word (get_or ws (control_place e) 0)) (get_or us (data_place e false) 0)
    (get_or vs (data_place e true) 0)
mixed ws us vs e p q =
    let k : Control = control_of_word (get_or ws (control_place e) 0) in
    let l : Control = control_of_word (get_or us (control_place e) 0) in
    let m : Control = control_of_word (get_or vs (control_place e) 0) in
    let first = word_by k.valid l.valid (get_or ws (data_place e false) 0)
    (get_or us (data_place e false) 0) (ap (λ (s : State). s.valid) p)
    (ap (λ (s : State). s.dword0) p) in
    let second = word_by k.valid m.valid (without_bits (get_or ws (data_place e true) 0))
    (without_bits (get_or vs (data_place e true) 0)) (ap (λ (s : State). s.valid) q)
    (ap (λ (s : State). s.dword1) q) in λ i. record {
      valid = k.valid;
      dword0 = first i;
      dword1 = second i;
      referenced = if k.valid then k.referenced else false;
      changed = if k.valid then k.changed else false;
      stamp = k.stamp;
    }

-- The three words of an entry, each from a closing of its own, are those of one.
pub words_rest :
    (opening : List State) (v : View) (e control first second : ℕ)
    → e < length opening
    → IsClosingWord opening v (control_place e) control
    → IsClosingWord opening v (data_place e false) first
    → IsClosingWord opening v (data_place e true) second
    → Rests opening v e (state_of (control_of_word control) first second)
words_rest opening v e control first second inside p q r =
    let n : ℕ = length opening in
    let alike : (ws us : List ℕ) → Closes opening v (entry_states ws n) →
    Closes opening v (entry_states us n) → entry_state ws e ≡ entry_state us e =
    λ ws us c d.
    sym (states_at ws n e inside)
    ∙ closed_alike opening (entry_states ws n) (entry_states us n) v e inside c d
    ∙ states_at us n e inside in (
      entry_states p.0 n,
      p.2,
      states_at p.0 n e inside
          ∙ mixed p.0 q.0 r.0 e (alike p.0 q.0 p.2 q.2) (alike p.0 r.0 p.2 r.2)
          ∙ (λ i. state_of (control_of_word (p.1 i)) (q.1 i) (r.1 i)),
    )

-- ---- the load
pub rest_allowed :
    (key : Opening) (slots id : ℕ) (m : Me ℕ View) (place : ℕ)
    → IsActing m.0
    → m.0.actor.phase ≡ Idle
    → length m.0.numbers ≡ m.0.passes
    → Allows (ShowsRun key) slots id m place (λ k. k) (RestPlay (step slots place 0 0 none) m)
rest_allowed key slots id m place acts idle all s h deep at fits =
    let n = numbered m.0 acts in
    let whole = h.1.shows.whole id m.0 at acts.some_share in (
      m.0,
      keeps,
      tt,
      subst
          (λ (z : List ℕ × List View).
          ShowsRun key (record { words = z.0; homes = s.homes; views = z.1 }))
          (λ i. (sym (set-get_or s.words place 0) i, sym (view_again s.views id m.0 at) i)) h,
      (
        refl,
        (
          s.words,
          refl,
          subst (λ o. Closes o m.0 (entry_states s.words (length o))) (sym whole.2)
              (closes_at key s h.0 h.1 id n.0 n.1 m.0 at n.2 (all ∙ whole.0) idle),
        ),
      ),
    )
