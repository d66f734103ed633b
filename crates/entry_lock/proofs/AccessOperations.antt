-- Each atomic step of an access keeps the rule.
use Rattle.std.specs.Prelude.{slice_get}
use Rattle.std.proofs.Common.{◌≡◌, ◌≢◌, ℕ, ◌+◌, ◌*◌, ◌<◌, ◌^◌, ◌&&◌, not, Bool, true, false, List, ◌∷◌, length, set, get_or, length-set, inl, inr, ⊎_elim, refl, sym, ap, ◌∙◌, subst, arith, eqb, Some, None}
use Rattle.std.proofs.lemmas.Bool.{false≢true, or_cases, cases_Bool, false_from_ne_true}
use mathlib.Core.Option.{some}
use Rattle.atomic_table.specs.Table.{State as TableState}
use Rattle.atomic_table.proofs.Lists.{exchanged}
use Rattle.entry_model.specs.declared.receipt.Receipt.{Receipt}
use Rattle.entry_model.specs.declared.operation.Op.{Op}
use Rattle.entry_model.specs.Receipt.{is_access, after_of}
use Rattle.entry_model.specs.State.{State}
use Rattle.entry_model.specs.History.{state_eq}
use Rattle.entry_model.proofs.Sorted.{state_self}
use Rattle.entry_model.specs.Fronts.{fronts_after, IsAhead}
use Rattle.lock_core.specs.declared.control.Control.{Control}
use Rattle.lock_core.specs.declared.doing.Doing.{Doing}
use Rattle.lock_core.specs.declared.entry.Entry.{Entry}
use Rattle.lock_core.specs.declared.phase.Phase.{Phase}
use Rattle.lock_core.specs.declared.phase.Phase.TheVariants.{Idle, Looked}
use Rattle.lock_core.specs.declared.step.Step.{Step}
use Rattle.lock_core.specs.declared.step.Step.TheVariants.{Look, LoadData, Mark}
use Rattle.lock_core.specs.declared.step_result.StepResult.{StepResult}
use Rattle.lock_core.specs.Words.{next_state, is_read, changes, receipt, is_noted, is_still}
use Rattle.lock_core.specs.Machine.{Machine, words_seen, HoldsEntry}
use Rattle.lock_core.specs.Steps.{actor_after, fits, names_entry, result_without_receipt, result_with_receipt, new_doing, with_noted, with_loaded, marked_entry}
use Rattle.lock_core.proofs.Moves.{Change, put_both}
use Rattle.lock_core.proofs.Kept.{IsOn, LookedOk, IsFresh, PhaseOk, looked_same}
use Rattle.lock_core.proofs.Noted.{noted_same}
use Rattle.entry_lock.specs.declared.rule.View.{View}
use Rattle.entry_lock.specs.declared.rule.Opening.{Opening}
use Rattle.entry_lock.specs.Layout.{word_of, control_place, data_place}
use Rattle.entry_lock.specs.Views.{states_of}
use Rattle.entry_lock.specs.Rule.{WordsShow, ShowsSteps, machine_after}
use Rattle.entry_lock.specs.StepViews.{view_with_step, view_in_phase, view_with_receipt, view_with_count, doing_with_word}
use Rattle.entry_lock.specs.AccessSteps.{LookTells, LookedLoadTells, AreAlike, is_decided, SecondLookTells, MarkTells}
use Rattle.entry_lock.specs.CallSteps.{leaves_state}
use Rattle.entry_lock.proofs.Bits.{same_word}
use Rattle.entry_lock.proofs.MachineMoves.{Moves, in_table_is}
use Rattle.entry_lock.proofs.Places.{control_set, control_else, data_else, read_shows, data_found}
use Rattle.entry_lock.proofs.SolePass.{unlocked}
use Rattle.entry_lock.proofs.AlikeDoings.{noted_self, alike_next, alike_changes, alike_receipt, alike_decided, later_receipt}
use Rattle.entry_lock.proofs.PassSteps.{Takes, kept, me, entry_there, has_number, turn_shown, turn_ahead, change_of, moves_of}
use Rattle.entry_lock.proofs.SecondLooks.{still_parts}
use Rattle.entry_lock.proofs.StoredWords.{loaded_is}
use Rattle.entry_lock.proofs.StepKinds as kinds
use lib.ListN.{get_elem?}
use prog.Atomic.{either}

loaded_noted : (second : Bool) (x : Entry) (d : Doing) → (with_loaded second x d).noted ≡ d.noted
loaded_noted true x d = refl
loaded_noted false x d = refl

-- A receipt on a state that stays.
left_same : (r : Receipt) (p : State) → r.before ≡ p → after_of r ≡ p → leaves_state r ≡ true
left_same r p before after =
    ap (λ t. state_eq t r.before) (after ∙ sym before) ∙ state_self r.before

module _ (key : Opening) (s : TableState ℕ View) (steps : List (ℕ × Step))
    (h : ShowsSteps key steps s.words s.views) (id n : ℕ) (ns : List ℕ) (v : View)
    (at : get_elem? s.views id ≡ some v) (mine : v.numbers ≡ n ∷ ns) (live : v.actor.live ≡ true)
  where
    abbrev C : Machine
    C = machine_after key steps

    -- Words and views show the machine after this step, which changed one word and the pass's view.
    abbrev AfterStep : Step → ℕ → ℕ → View → Type 0
    AfterStep step i m w = ShowsSteps key ((n, step) ∷ steps) (set s.words i m) (set s.views id w)

    in_words : (e : ℕ) → e < length (states_of key) → 3 * e + 3 < length s.words
    in_words e inside = let w = h.shows.wide in omega arith

    all_of : length v.numbers ≡ v.passes → length v.numbers ≡ key.passes
    all_of all = all ∙ (h.shows.whole id v at (has_number key s steps h id n ns v at mine)).0

    -- A pass with all shares finds no entry shut that it doesn't hold.
    pub open_alone :
        (e : ℕ) (x : Entry)
        → slice_get C.entries e ≡ Some x
        → ¬ HoldsEntry e v.actor.phase
        → length v.numbers ≡ v.passes
        → x.control.shut ≡ false
    open_alone e x here free all =
        let ok = (kept key s steps h id n ns v at mine).1.entries e x here in
        let l = unlocked key s steps h id n ns v at mine (all_of all) e x here free in
        false_from_ne_true x.control.shut (λ q. false≢true (sym l ∙ ok.shut q))

    -- ---- first looks
    pub look_open_step :
        (e : ℕ) (op : Op) (x : Entry)
        → slice_get C.entries e ≡ Some x
        → v.actor.phase ≡ Idle
        → is_access op ≡ true
        → x.control.shut ≡ false
        →
        (let d : Doing = new_doing e op x.control (words_seen C v.actor e x.control) in
        let found : ℕ = get_or s.words (control_place e) 0 in
        AfterStep (Look e op) (control_place e) found
        (view_with_count (view_in_phase (view_with_step v (Look e op)) (Looked d)) e found found)
        × LookedOk d x)
    look_open_step e op x here idle access open' =
        let show = h.shows.words e x here in
        let found : ℕ = get_or s.words (control_place e) 0 in
        let d : Doing = new_doing e op x.control (words_seen C v.actor e x.control) in
        let w : View = view_with_count (view_in_phase (view_with_step v (Look e op)) (Looked d)) e
        found found in
        let t : StepResult = result_without_receipt x (Looked d) in
        let z = change_of key s steps h id n ns v at mine Idle (Look e op) x t live idle here
        (kinds.fits_look x e op access) (kinds.look_open _ x e op open') in
        let k : Takes key s.words (set s.words (control_place e) found) e v w x t = record {
          after =
              record { actor = refl; numbers = refl; passes = refl; opening = refl; fronts = refl };
          long = length-set s.words (control_place e) found;
          show = read_shows s.words (control_place e) e x show;
          others = control_else s.words e found;
          stores = λ d' is. absurd cc;
          keeps = inr (refl, refl);
          alone = λ d' all is. ap (λ (q : Doing). q.noted) (looked_same d d' is);
          calm = inl (refl, λ q. q);
          lifts = λ q. inl (q, refl);
        } in (
          turn_shown key s steps h id n ns v at mine e w x t (set s.words (control_place e) found) z
              k
              (Look e op) refl
              (moves_of key s steps h id n ns v at mine Idle (Look e op) x t (kinds.look_on e op)
              (kinds.names_look C e op (in_table_is C e x here)) live idle here
              (kinds.fits_look x e op access) (kinds.look_open _ x e op open')),
          z.ok,
        )

    pub look_step :
        (e : ℕ) (op : Op) → e < length (states_of key) → v.actor.phase ≡ Idle → is_access op ≡ true
        → (w : View)
        × AfterStep (Look e op) (control_place e) (get_or s.words (control_place e) 0) w
        × LookTells op e v (get_or s.words (control_place e) 0) w
    look_step e op inside idle access =
        let f = entry_there key s steps h id n ns v at mine e inside in
        let x : Entry = f.0 in
        let show = h.shows.words e x f.1 in
        let low = ((kept key s steps h id n ns v at mine).1.entries e x f.1).low in
        let found : ℕ = get_or s.words (control_place e) 0 in
        let never : length v.numbers ≡ v.passes → x.control.shut ≡ false = open_alone e x f.1
        (λ q. subst (HoldsEntry e) idle q) in
        ⊎_elim
        {C =
        (w : View)
        × AfterStep (Look e op) (control_place e) found w
        × LookTells op e v found w}
        (λ (shut : x.control.shut ≡ true).
        let w : View = view_with_count (view_with_step v (Look e op)) e found found in
        let t : StepResult = result_without_receipt x Idle in
        let z = change_of key s steps h id n ns v at mine Idle (Look e op) x t live idle f.1
        (kinds.fits_look x e op access) (kinds.look_shut _ x e op shut) in
        let k : Takes key s.words (set s.words (control_place e) found) e v w x t = record {
          after =
              record {
                actor = λ i. record v.actor { phase = idle i };
                numbers = refl;
                passes = refl;
                opening = refl;
                fronts = refl;
              };
          long = length-set s.words (control_place e) found;
          show = read_shows s.words (control_place e) e x show;
          others = control_else s.words e found;
          stores = λ d' is. absurd cc;
          keeps = inr (refl, refl);
          alone = λ d' all is. absurd cc;
          calm = inl (refl, λ q. q);
          lifts = λ q. inl (q, refl);
        } in (
          w,
          turn_shown key s steps h id n ns v at mine e w x t (set s.words (control_place e) found) z
              k
              (Look e op) refl
              (moves_of key s steps h id n ns v at mine Idle (Look e op) x t (kinds.look_on e op)
              (kinds.names_look C e op (in_table_is C e x f.1)) live idle f.1
              (kinds.fits_look x e op access) (kinds.look_shut _ x e op shut)),
          (
            x.control,
            (show.control, low),
            never,
            (λ _. refl),
            (λ free. absurd (false≢true (sym free ∙ shut))),
          ),
        ))
        (λ (open' : x.control.shut ≡ false).
        let w : View = view_with_count
        (view_in_phase (view_with_step v (Look e op))
        (Looked (new_doing e op x.control (words_seen C v.actor e x.control)))) e found found
        in (
          w,
          (look_open_step e op x f.1 idle access open').0,
          (
            x.control,
            (show.control, low),
            never,
            (λ shut. absurd (false≢true (sym open' ∙ shut))),
            (λ _. (words_seen C v.actor e x.control, refl)),
          ),
        ))
        (cases_Bool x.control.shut)

    pub looked_load_step :
        (d : Doing) (second : Bool)
        → d.entry < length (states_of key)
        → v.actor.phase ≡ Looked d
        → d.noted.valid ≡ true
        → (w : View)
        × AfterStep (LoadData second) (data_place d.entry second)
        (get_or s.words (data_place d.entry second) 0) w
        × LookedLoadTells second d v (get_or s.words (data_place d.entry second) 0) w
    looked_load_step d second inside is valid =
        let f = entry_there key s steps h id n ns v at mine d.entry inside in
        let x : Entry = f.0 in
        let show = h.shows.words d.entry x f.1 in
        let i : ℕ = data_place d.entry second in
        let found : ℕ = get_or s.words i 0 in
        let w : View = view_in_phase (view_with_step v (LoadData second))
        (Looked (doing_with_word second found d)) in
        let t : StepResult = result_without_receipt x (Looked (with_loaded second x d)) in
        let same : doing_with_word second found d ≡ with_loaded second x d = loaded_is second x d
        found (data_found second s.words d.entry x show) in
        let z =
        change_of key s steps h id n ns v at mine (Looked d) (LoadData second) x t live is f.1
        (kinds.fits_looked_load x d second valid) (kinds.looked_load_turn _ x d second) in
        let k : Takes key s.words (set s.words i found) d.entry v w x t = record {
          after =
              record {
                actor = ap (λ (a : Doing). actor_after v.actor (Looked a) None) same;
                numbers = refl;
                passes = refl;
                opening = refl;
                fronts = refl;
              };
          long = length-set s.words i found;
          show = read_shows s.words i d.entry x show;
          others = data_else second s.words d.entry found;
          stores = λ d' is'. absurd cc;
          keeps = inr (refl, refl);
          alone =
              λ d' all is'.
              h.shows.alone id v d x at all is f.1
              ∙ sym (loaded_noted second x d)
              ∙ ap (λ (q : Doing). q.noted) (looked_same (with_loaded second x d) d' is');
          calm = inl (refl, λ q. q);
          lifts = λ q. inl (q, refl);
        } in (
          w,
          turn_shown key s steps h id n ns v at mine d.entry w x t (set s.words i found) z k
              (LoadData second) refl
              (moves_of key s steps h id n ns v at mine (Looked d) (LoadData second) x t
              (kinds.load_on second) (kinds.names_load C second) live is f.1
              (kinds.fits_looked_load x d second valid) (kinds.looked_load_turn _ x d second)),
          refl,
        )

    -- ---- second looks and marks
    module _ (a d : Doing) (inside : d.entry < length (states_of key))
        (is : v.actor.phase ≡ Looked d)
        (al : AreAlike a d) (read : is_read a ≡ true) where
      -- The machine's entry that the operation is on.
      abbrev pub X : Entry
      X = (entry_there key s steps h id n ns v at mine d.entry inside).0

      here : slice_get C.entries d.entry ≡ Some X
      here = (entry_there key s steps h id n ns v at mine d.entry inside).1

      show : WordsShow s.words d.entry X
      show = h.shows.words d.entry X here

      low : X.control.stamp < 2 ^ 32
      low = ((kept key s steps h id n ns v at mine).1.entries d.entry X here).low

      pub looked : LookedOk d X
      looked =
          subst (λ (q : Phase). PhaseOk q X) is
          ((kept key s steps h id n ns v at mine).1.actors n d.entry v.actor X
          (me key s steps h id n ns v at mine) (subst (IsOn d.entry) (sym is) refl) here)

      abbrev found : ℕ
      found = get_or s.words (control_place d.entry) 0

      abbrev wanted : ℕ
      wanted = word_of a.noted

      wanted_is : word_of d.noted ≡ wanted
      wanted_is = ap word_of al.noted

      -- The word found is the noted one exactly if the controls are the same.
      same_if : found ≡ wanted → X.control ≡ d.noted
      same_if hit =
          same_word found X.control d.noted (show.control, low)
          (hit ∙ sym wanted_is, (let o = looked.older in let l = low in omega arith))

      hit_if : X.control ≡ d.noted → found ≡ wanted
      hit_if same = show.control ∙ ap word_of same ∙ wanted_is

      noted_if : X.control ≡ d.noted → is_noted X.control d.noted ≡ true
      noted_if same = ap (λ (k : Control). is_noted k d.noted) same ∙ noted_self d.noted

      missed_if : found ≢ wanted → is_noted X.control d.noted ≡ false
      missed_if miss =
          false_from_ne_true (is_noted X.control d.noted)
          (λ q. miss (hit_if (noted_same X.control d.noted q)))

      unshut : X.control ≡ d.noted → X.control.shut ≡ false
      unshut same = ap (λ (k : Control). k.shut) same ∙ looked.free

      -- A word by which the second look decides isn't shut, and is valid where the noted one is.
      decided_parts :
          is_decided X.control d ≡ true
          → (X.control.shut ≡ false) × (X.control.valid ≡ d.noted.valid)
      decided_parts holds =
          ⊎_elim {C = (X.control.shut ≡ false) × (X.control.valid ≡ d.noted.valid)}
          (λ (hit : is_noted X.control d.noted ≡ true).
          let same = noted_same X.control d.noted hit in
          (unshut same, ap (λ (k : Control). k.valid) same))
          (λ (there : is_still X.control d ≡ true).
          let p = still_parts d X.control there in
          let fresh : IsFresh d X = record { stamp = sym p.2; free = p.1 } in
          (p.1, sym (looked.bits fresh).valid))
          (or_cases _ _ holds)

      always : length v.numbers ≡ v.passes → found ≡ wanted
      always all = hit_if (h.shows.alone id v d X at (all_of all) is here)

      -- The second look as the machine names it, and as the code does.
      look_named : Look d.entry d.op ≡ Look a.entry a.op
      look_named = λ i. Look (al.entry i) (al.op i)

      taken_by : (step name : Step) → step ≡ name → name ∷ v.taken ≡ step ∷ v.taken
      taken_by step name is' = ap (λ z. z ∷ v.taken) (sym is')

      -- The view after a miss, and its turn.
      missed :
          (step name : Step)
          → step ≡ name
          → (z : Change C d.entry n X v.actor (result_without_receipt X Idle))
          → Moves C n step (put_both C d.entry X n (actor_after v.actor Idle None))
          → AfterStep step (control_place d.entry) found
          (view_with_count (view_in_phase (view_with_step v name) Idle) a.entry wanted found)
      missed step name named z moves =
          let w : View = view_with_count (view_in_phase (view_with_step v name) Idle) a.entry wanted
          found in
          let t : StepResult = result_without_receipt X Idle in
          let k :
          Takes key s.words (set s.words (control_place d.entry) found) d.entry v w X t = record {
            after =
                record {
                  actor = refl;
                  numbers = refl;
                  passes = refl;
                  opening = refl;
                  fronts = refl;
                };
            long = length-set s.words (control_place d.entry) found;
            show = read_shows s.words (control_place d.entry) d.entry X show;
            others = control_else s.words d.entry found;
            stores = λ d' is'. absurd cc;
            keeps = inr (refl, refl);
            alone = λ d' all is'. absurd cc;
            calm = inl (refl, λ q. q);
            lifts = λ q. inl (q, refl);
          } in
          turn_shown key s steps h id n ns v at mine d.entry w X t
          (set s.words (control_place d.entry) found) z k step (taken_by step name named) moves

      -- The view after a receipt that leaves the entry as it is.
      decided :
          (d' a' : Doing)
          → receipt d' ≡ receipt a'
          → X.control.shut ≡ false
          → (step name : Step)
          → step ≡ name
          → (z : Change C d.entry n X v.actor (result_with_receipt X (receipt d')))
          → Moves C n step (put_both C d.entry X n (actor_after v.actor Idle (Some (receipt d'))))
          → AfterStep step (control_place d.entry) found
          (view_with_count (view_with_receipt (view_with_step v name) (receipt a')) a.entry wanted
          found)
          × IsAhead v.fronts (receipt a')
          × (leaves_state (receipt a') ≡ true)
      decided d' a' same free step name named z moves =
          let w : View = view_with_count (view_with_receipt (view_with_step v name) (receipt a'))
          a.entry wanted found in
          let t : StepResult = result_with_receipt X (receipt d') in
          let k :
          Takes key s.words (set s.words (control_place d.entry) found) d.entry v w X t = record {
            after =
                record {
                  actor = ap (λ (r : Receipt). actor_after v.actor Idle (Some r)) (sym same);
                  numbers = refl;
                  passes = refl;
                  opening = refl;
                  fronts = ap (fronts_after v.fronts) (sym same);
                };
            long = length-set s.words (control_place d.entry) found;
            show = read_shows s.words (control_place d.entry) d.entry X show;
            others = control_else s.words d.entry found;
            stores = λ d' is'. absurd cc;
            keeps = inr (refl, refl);
            alone = λ d' all is'. absurd cc;
            calm = inr (inl free);
            lifts = λ q. inl (q, refl);
          } in (
            turn_shown key s steps h id n ns v at mine d.entry w X t
                (set s.words (control_place d.entry) found) z k step (taken_by step name named)
                moves,
            subst (IsAhead v.fronts) same
                (turn_ahead key s steps h id n ns v at mine d.entry w X t
                (set s.words (control_place d.entry) found) z k (receipt d') refl),
            subst (λ r. leaves_state r ≡ true) same
                (left_same (receipt d') X.published z.tells.1 z.tells.2),
          )

      -- The second look that the code takes is allowed.
      pub again_may :
          changes a ≡ false
          → (names_entry C (Look d.entry d.op) ≡ true)
          × (fits X (Looked d) (Look d.entry d.op) ≡ true)
      again_may still =
          let may : (is_read d && not (changes d)) ≡ true = λ i. al.read read i && not
          ((alike_changes a d al ∙ still) i) in (
            kinds.names_look C d.entry d.op (in_table_is C d.entry X here),
            kinds.fits_again X d looked.op may,
          )

      pub look_again_step :
          changes a ≡ false
          → (w : View)
          × AfterStep (Look d.entry d.op) (control_place d.entry) found w
          × SecondLookTells a v found w
      look_again_step still =
          let e : ℕ = d.entry in
          let op : Op = d.op in
          let may = again_may still in
          let names = may.0 in
          let fit = may.1 in
          let step : Step = Look e op in
          let name : Step = Look a.entry a.op in
          let on = kinds.look_on e op in
          ⊎_elim
          {C =
          (w : View)
          × AfterStep (Look d.entry d.op) (control_place d.entry) found w
          × SecondLookTells a v found w}
          (λ (holds : is_decided X.control d ≡ true).
          let parts = decided_parts holds in
          let t : StepResult = result_with_receipt X (receipt (with_noted d X.control)) in
          let turn_is =
          kinds.again_decided (words_seen C v.actor d.entry X.control) X d e op holds in
          let o = decided (with_noted d X.control) (with_noted a X.control)
          (later_receipt a d al X.control (λ q. sym parts.1 ∙ q)) parts.0 step name look_named
          (change_of key s steps h id n ns v at mine (Looked d) step X t live is here fit turn_is)
          (moves_of key s steps h id n ns v at mine (Looked d) step X t on names live is here fit
          turn_is) in (
            view_with_count
                (view_with_receipt (view_with_step v name) (receipt (with_noted a X.control)))
                a.entry
                wanted found,
            o.0,
            (
              X.control,
              (show.control, low),
              always,
              (λ _. (
                (refl, o.1),
                record {
                  valid = parts.1 ∙ ap (λ (k : Control). k.valid) al.noted;
                  leaves = o.2;
                },
              )),
              (λ q. absurd (false≢true (sym q ∙ sym (alike_decided a d al X.control) ∙ holds))),
            ),
          ))
          (λ (gone : is_decided X.control d ≡ false).
          let t : StepResult = result_without_receipt X Idle in
          let turn_is = kinds.again_miss (words_seen C v.actor d.entry X.control) X d e op gone in (
            view_with_count (view_in_phase (view_with_step v name) Idle) a.entry wanted found,
            missed step name look_named
                (change_of key s steps h id n ns v at mine (Looked d) step X t live is here fit
                turn_is)
                (moves_of key s steps h id n ns v at mine (Looked d) step X t on names live is here
                fit turn_is),
            (
              X.control,
              (show.control, low),
              always,
              (λ q. absurd (false≢true (sym gone ∙ alike_decided a d al X.control ∙ q))),
              (λ _. refl),
            ),
          ))
          (cases_Bool (is_decided X.control d))

      pub mark_step :
          (new : ℕ)
          → changes a ≡ true
          → new
          ≡ word_of
          (record a.noted {
            referenced = (next_state a).referenced;
            changed = (next_state a).changed;
          })
          → (w : View)
          × AfterStep Mark (control_place d.entry) (either (eqb found wanted) new found) w
          × MarkTells a v found w
      mark_step new change means =
          let may : (is_read d && changes d) ≡ true = λ i. al.read read i &&
          (alike_changes a d al ∙ change) i in
          let fit = kinds.fits_mark X d may in
          let wide = in_words d.entry inside in
          exchanged found wanted new
          (λ m. (w : View) × AfterStep Mark (control_place d.entry) m w × MarkTells a v found w)
          (λ (hit : found ≡ wanted).
          let same = same_if hit in
          let turn_is = kinds.mark_hit (words_seen C v.actor d.entry X.control) X d (noted_if same)
          in
          let y : Entry = marked_entry X (next_state d) in
          let t : StepResult = result_with_receipt y (receipt d) in
          let z = change_of key s steps h id n ns v at mine (Looked d) Mark X t live is here fit
          turn_is in
          let w : View = view_with_count (view_with_receipt (view_with_step v Mark) (receipt a))
          a.entry wanted found in
          let rec : receipt d ≡ receipt a = alike_receipt a d al in
          let next : next_state d ≡ next_state a = alike_next a d al in
          let written : new ≡ word_of y.control = means ∙
          (λ i.
          word_of
          (record (sym (same ∙ al.noted) i) {
            referenced = (sym next i).referenced;
            changed = (sym next i).changed;
          })) in
          let k :
          Takes key s.words (set s.words (control_place d.entry) new) d.entry v w X t = record {
            after =
                record {
                  actor = ap (λ (r : Receipt). actor_after v.actor Idle (Some r)) (sym rec);
                  numbers = refl;
                  passes = refl;
                  opening = refl;
                  fronts = ap (fronts_after v.fronts) (sym rec);
                };
            long = length-set s.words (control_place d.entry) new;
            show = control_set s.words d.entry new X y (omega arith) written refl refl show;
            others = control_else s.words d.entry new;
            stores = λ d' is'. absurd cc;
            keeps = inr (refl, refl);
            alone = λ d' all is'. absurd cc;
            calm = inr (inl (unshut same));
            lifts = λ q. absurd (false≢true (sym (unshut same) ∙ q));
          } in (
            w,
            turn_shown key s steps h id n ns v at mine d.entry w X t
                (set s.words (control_place d.entry) new) z k Mark refl
                (moves_of key s steps h id n ns v at mine (Looked d) Mark X t kinds.mark_on
                (kinds.names_mark C) live is here fit turn_is),
            (
              X.control,
              (show.control, low),
              always,
              (λ _. (
                refl,
                subst (IsAhead v.fronts) rec
                    (turn_ahead key s steps h id n ns v at mine d.entry w X t
                    (set s.words (control_place d.entry) new) z k (receipt d) refl),
              )),
              (λ miss. absurd (miss hit)),
            ),
          ))
          (λ (miss : found ≢ wanted).
          let turn_is =
          kinds.mark_miss (words_seen C v.actor d.entry X.control) X d (missed_if miss)
          in (
            view_with_count (view_in_phase (view_with_step v Mark) Idle) a.entry wanted found,
            missed Mark Mark refl
                (change_of key s steps h id n ns v at mine (Looked d) Mark X
                (result_without_receipt X Idle) live is here fit turn_is)
                (moves_of key s steps h id n ns v at mine (Looked d) Mark X
                (result_without_receipt X Idle) kinds.mark_on (kinds.names_mark C) live is here
                fit turn_is),
            (X.control, (show.control, low), always, (λ hit. absurd (miss hit)), (λ _. refl)),
          ))
