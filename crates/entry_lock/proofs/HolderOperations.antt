-- Each atomic step of a holder keeps the rule.
use Rattle.std.specs.Prelude.{slice_get}
use Rattle.std.proofs.Common.{◌≡◌, ℕ, ◌+◌, ◌*◌, ◌<◌, ◌==◌, ◌&&◌, ◌||◌, not, Bool, true, false, List, ◌∷◌, length, set, get_or, length-set, inl, inr, ⊎_elim, refl, sym, ap, ◌∙◌, subst, arith, eq-eqb, Some, None}
use Rattle.std.specs.Int.Bits.{bit_or, bit_and}
use Rattle.std.proofs.lemmas.Bool.{false≢true, cases_Bool, false_from_ne_true}
use mathlib.Core.Option.{some}
use Rattle.atomic_table.specs.Table.{State as TableState}
use Rattle.entry_model.specs.State.{State}
use Rattle.entry_model.specs.declared.receipt.Receipt.{Receipt}
use Rattle.entry_model.specs.declared.operation.Op.{Op}
use Rattle.entry_model.specs.Receipt.{is_access}
use Rattle.lock_core.specs.declared.control.Control.{Control}
use Rattle.lock_core.specs.declared.doing.Doing.{Doing}
use Rattle.lock_core.specs.declared.entry.Entry.{Entry}
use Rattle.lock_core.specs.declared.phase.Phase.{Phase}
use Rattle.lock_core.specs.declared.phase.Phase.TheVariants.{Idle, Held, HeldShut}
use Rattle.lock_core.specs.declared.step.Step.{Step}
use Rattle.lock_core.specs.declared.step.Step.TheVariants.{Lock, LoadData, Shut, StoreData, Settle, Release}
use Rattle.lock_core.specs.declared.step_result.StepResult.{StepResult}
use Rattle.lock_core.specs.Words.{next_state, is_read, changes, receipt, settled_word, is_stored}
use Rattle.lock_core.specs.Machine.{Machine, entry_at, HoldsEntry}
use Rattle.lock_core.specs.Steps.{actor_after, result_without_receipt, result_with_receipt, new_doing, with_noted, with_loaded, with_stored, locked_entry, shut_entry, settled_entry}
use Rattle.lock_core.proofs.Kept.{IsOn, HeldOk, ShutOk, PhaseOk, shut_same}
use Rattle.lock_core.proofs.Noted.{raised, noted_stamp}
use Rattle.entry_lock.specs.declared.rule.View.{View}
use Rattle.entry_lock.specs.declared.rule.Opening.{Opening}
use Rattle.entry_lock.specs.Layout.{word_of, Means, control_place, data_place, doubleword}
use Rattle.entry_lock.specs.Views.{states_of}
use Rattle.entry_lock.specs.Rule.{AreStored, ShowsSteps, machine_after}
use Rattle.entry_lock.specs.StepViews.{view_with_step, view_in_phase, view_with_receipt, view_with_store, view_with_count, doing_with_word}
use Rattle.entry_lock.specs.HolderSteps.{LockTells, LoadTells, ShutTells, StoreTells, SettleTells, ReleaseTells}
use Rattle.entry_lock.proofs.Bits.{lock_word, unlock_word, shut_word}
use Rattle.entry_lock.proofs.MachineMoves.{in_table_is, entry_is}
use Rattle.entry_lock.proofs.Places.{control_set, control_else, data_set, data_else, read_shows, data_found, data_before}
use Rattle.entry_lock.proofs.SolePass.{unlocked}
use Rattle.entry_lock.proofs.PassSteps.{Takes, kept, me, entry_there, has_number, turn_shown, turn_ahead, change_of, moves_of}
use Rattle.entry_lock.proofs.StepKinds as kinds
use lib.ListN.{get_elem?}
use Rattle.entry_lock.proofs.StoredWords.{loaded_is, stored_data, stored_other, stored_marks, stored_actor, stored_numbers, stored_taken, stored_passes, stored_opening, stored_fronts}
use Rattle.lock_core.proofs.Steps.{stored_published, stored_control}

module _ (key : Opening) (s : TableState ℕ View) (steps : List (ℕ × Step))
    (h : ShowsSteps key steps s.words s.views) (id n : ℕ) (ns : List ℕ) (v : View)
    (at : get_elem? s.views id ≡ some v) (mine : v.numbers ≡ n ∷ ns) (live : v.actor.live ≡ true)
  where
    abbrev C : Machine
    C = machine_after key steps

    -- Words and views show the machine after this step, which changed one word and the pass's view.
    abbrev AfterStep : Step → ℕ → ℕ → View → Type 0
    AfterStep step i m w = ShowsSteps key ((n, step) ∷ steps) (set s.words i m) (set s.views id w)

    phase_ok :
        (e : ℕ) (p : Phase) (x : Entry)
        → v.actor.phase ≡ p
        → IsOn e p
        → slice_get C.entries e ≡ Some x
        → PhaseOk p x
    phase_ok e p x is on here =
        subst (λ (q : Phase). PhaseOk q x) is
        ((kept key s steps h id n ns v at mine).1.actors n e v.actor x
        (me key s steps h id n ns v at mine) (subst (IsOn e) (sym is) on) here)

    in_words : (e : ℕ) → e < length (states_of key) → 3 * e + 3 < length s.words
    in_words e inside = let w = h.shows.wide in omega arith

    pub lock_step :
        (e : ℕ) (op : Op) → e < length (states_of key) → v.actor.phase ≡ Idle → is_access op ≡ false
        → (w : View)
        × AfterStep (Lock e op) (control_place e)
        (bit_or (get_or s.words (control_place e) 0) 9223372036854775808) w
        × LockTells op e v (get_or s.words (control_place e) 0) w
    lock_step e op inside idle other =
        let f = entry_there key s steps h id n ns v at mine e inside in
        let x : Entry = f.0 in
        let show = h.shows.words e x f.1 in
        let ok = (kept key s steps h id n ns v at mine).1.entries e x f.1 in
        let found : ℕ = get_or s.words (control_place e) 0 in
        let means : Means found x.control = (show.control, ok.low) in
        let wide = in_words e inside in
        let turned :
        bit_or found 9223372036854775808 ≡ word_of (record x.control { locked = true }) =
        ap (λ m. bit_or m 9223372036854775808) show.control ∙ lock_word x.control ok.low in
        let never : length v.numbers ≡ v.passes → x.control.locked ≡ false = λ all. unlocked key s
        steps h id n ns v at mine
        (all ∙ (h.shows.whole id v at (has_number key s steps h id n ns v at mine)).0) e x f.1
        (λ q. subst (HoldsEntry e) idle q) in
        ⊎_elim
        {C =
        (w : View)
        × AfterStep (Lock e op) (control_place e) (bit_or found 9223372036854775808) w
        × LockTells op e v found w}
        (λ (locked : x.control.locked ≡ true).
        let w : View = view_with_count (view_with_step v (Lock e op)) e found found in
        let t : StepResult = result_without_receipt x Idle in
        let z = change_of key s steps h id n ns v at mine Idle (Lock e op) x t live idle f.1
        (kinds.fits_lock x e op other) (kinds.lock_taken _ x e op locked) in
        let same : bit_or found 9223372036854775808 ≡ word_of x.control = turned ∙ ap
        (λ b. word_of (record x.control { locked = b })) (sym locked) in
        let k :
        Takes key s.words (set s.words (control_place e) (bit_or found 9223372036854775808)) e v w
        x t =
        record {
          after =
              record {
                actor = λ i. record v.actor { phase = idle i };
                numbers = refl;
                passes = refl;
                opening = refl;
                fronts = refl;
              };
          long = length-set s.words (control_place e) (bit_or found 9223372036854775808);
          show =
              control_set s.words e (bit_or found 9223372036854775808) x x (omega arith) same refl
              refl show;
          others = control_else s.words e (bit_or found 9223372036854775808);
          stores = λ d is. absurd cc;
          keeps = inr (refl, refl);
          alone = λ d all is. absurd cc;
          calm = inl (refl, λ q. q);
          lifts = λ q. inl (q, refl);
        } in (
          w,
          turn_shown key s steps h id n ns v at mine e w x t
              (set s.words (control_place e) (bit_or found 9223372036854775808)) z k (Lock e op)
              refl
              (moves_of key s steps h id n ns v at mine Idle (Lock e op) x t (kinds.lock_on e op)
              (kinds.names_lock C e op (in_table_is C e x f.1)) live idle f.1
              (kinds.fits_lock x e op other) (kinds.lock_taken _ x e op locked)),
          (x.control, means, never, (λ _. refl), (λ free. absurd (false≢true (sym free ∙ locked)))),
        ))
        (λ (free : x.control.locked ≡ false).
        let w : View = view_with_count
        (view_in_phase (view_with_step v (Lock e op)) (Held (new_doing e op x.control None))) e
        found found in
        let t : StepResult = result_without_receipt (locked_entry x true)
        (Held (new_doing e op x.control None)) in
        let unshut : x.control.shut ≡ false = false_from_ne_true x.control.shut
        (λ q. false≢true (sym free ∙ ok.shut q)) in
        let z = change_of key s steps h id n ns v at mine Idle (Lock e op) x t live idle f.1
        (kinds.fits_lock x e op other) (kinds.lock_free _ x e op free) in
        let k :
        Takes key s.words (set s.words (control_place e) (bit_or found 9223372036854775808)) e v w
        x t =
        record {
          after =
              record { actor = refl; numbers = refl; passes = refl; opening = refl; fronts = refl };
          long = length-set s.words (control_place e) (bit_or found 9223372036854775808);
          show =
              control_set s.words e (bit_or found 9223372036854775808) x (locked_entry x true)
              (omega arith) turned refl refl show;
          others = control_else s.words e (bit_or found 9223372036854775808);
          stores = λ d is. absurd cc;
          keeps = inr (refl, refl);
          alone = λ d all is. absurd cc;
          calm = inr (inl unshut);
          lifts = λ q. inl (q, refl);
        } in (
          w,
          turn_shown key s steps h id n ns v at mine e w x t
              (set s.words (control_place e) (bit_or found 9223372036854775808)) z k (Lock e op)
              refl
              (moves_of key s steps h id n ns v at mine Idle (Lock e op) x t (kinds.lock_on e op)
              (kinds.names_lock C e op (in_table_is C e x f.1)) live idle f.1
              (kinds.fits_lock x e op other) (kinds.lock_free _ x e op free)),
          (
            x.control,
            means,
            never,
            (λ locked. absurd (false≢true (sym free ∙ locked))),
            (λ _. refl),
          ),
        ))
        (cases_Bool x.control.locked)

    pub load_step :
        (d : Doing) (second : Bool)
        → d.entry < length (states_of key)
        → v.actor.phase ≡ Held d
        → d.noted.valid ≡ true
        → (w : View)
        × AfterStep (LoadData second) (data_place d.entry second)
        (get_or s.words (data_place d.entry second) 0) w
        × LoadTells second d v (get_or s.words (data_place d.entry second) 0) w
    load_step d second inside is valid =
        let f = entry_there key s steps h id n ns v at mine d.entry inside in
        let x : Entry = f.0 in
        let show = h.shows.words d.entry x f.1 in
        let i : ℕ = data_place d.entry second in
        let found : ℕ = get_or s.words i 0 in
        let w : View = view_in_phase (view_with_step v (LoadData second))
        (Held (doing_with_word second found d)) in
        let t : StepResult = result_without_receipt x (Held (with_loaded second x d)) in
        let same : doing_with_word second found d ≡ with_loaded second x d = loaded_is second x d
        found (data_found second s.words d.entry x show) in
        let z = change_of key s steps h id n ns v at mine (Held d) (LoadData second) x t live is f.1
        (kinds.fits_load x d second valid) (kinds.load_turn _ x d second) in
        let k : Takes key s.words (set s.words i found) d.entry v w x t = record {
          after =
              record {
                actor = ap (λ (a : Doing). actor_after v.actor (Held a) None) same;
                numbers = refl;
                passes = refl;
                opening = refl;
                fronts = refl;
              };
          long = length-set s.words i found;
          show = read_shows s.words i d.entry x show;
          others = data_else second s.words d.entry found;
          stores = λ d' is'. absurd cc;
          keeps = inr (refl, refl);
          alone = λ d' all is'. absurd cc;
          calm = inr (inr (subst (HoldsEntry d.entry) (sym is) refl));
          lifts = λ q. inl (q, refl);
        } in (
          w,
          turn_shown key s steps h id n ns v at mine d.entry w x t (set s.words i found) z k
              (LoadData second) refl
              (moves_of key s steps h id n ns v at mine (Held d) (LoadData second) x t
              (kinds.load_on second) (kinds.names_load C second) live is f.1
              (kinds.fits_load x d second valid) (kinds.load_turn _ x d second)),
          refl,
        )

    pub shut_step :
        (d : Doing)
        → d.entry < length (states_of key)
        → v.actor.phase ≡ Held d
        → (is_read d && changes d) ≡ true
        → (w : View)
        × AfterStep (Shut) (control_place d.entry)
        (bit_or (get_or s.words (control_place d.entry) 0) 4611686018427387904) w
        × ShutTells d v (get_or s.words (control_place d.entry) 0) w
    shut_step d inside is may =
        let f = entry_there key s steps h id n ns v at mine d.entry inside in
        let x : Entry = f.0 in
        let show = h.shows.words d.entry x f.1 in
        let low = ((kept key s steps h id n ns v at mine).1.entries d.entry x f.1).low in
        let wide = in_words d.entry inside in
        let ok : HeldOk d x = phase_ok d.entry (Held d) x is refl f.1 in
        let i : ℕ = control_place d.entry in
        let found : ℕ = get_or s.words i 0 in
        let m : ℕ = bit_or found 4611686018427387904 in
        let w : View = view_in_phase (view_with_step v Shut) (HeldShut (with_noted d x.control)) in
        let t :
        StepResult = result_without_receipt (shut_entry x) (HeldShut (with_noted d x.control))
        in
        let turned : m ≡ word_of (shut_entry x).control = ap (λ k. bit_or k 4611686018427387904)
        show.control ∙ shut_word x.control low in
        let z = change_of key s steps h id n ns v at mine (Held d) Shut x t live is f.1
        (kinds.fits_shut x d may) (kinds.shut_turn _ x d) in
        let k : Takes key s.words (set s.words i m) d.entry v w x t = record {
          after =
              record { actor = refl; numbers = refl; passes = refl; opening = refl; fronts = refl };
          long = length-set s.words i m;
          show = control_set s.words d.entry m x (shut_entry x) (omega arith) turned refl refl show;
          others = control_else s.words d.entry m;
          stores =
              λ d' is'.
              record { first = λ q. absurd (false≢true q); second = λ q. absurd (false≢true q) };
          keeps = inr (refl, refl);
          alone = λ d' all is'. absurd cc;
          calm = inr (inr (subst (HoldsEntry d.entry) (sym is) refl));
          lifts = λ q. inl (refl, refl);
        } in (
          w,
          turn_shown key s steps h id n ns v at mine d.entry w x t (set s.words i m) z k Shut refl
              (moves_of key s steps h id n ns v at mine (Held d) Shut x t kinds.shut_on
              (kinds.names_shut C) live is f.1 (kinds.fits_shut x d may)
              (kinds.shut_turn _ x d)),
          (x.control, (show.control, low), sym ok.valid, sym ok.stamp, refl),
        )

    pub store_step :
        (d : Doing) (second : Bool) (new : ℕ)
        → d.entry < length (states_of key)
        → v.actor.phase ≡ HeldShut d
        → new ≡ doubleword second (next_state d)
        → (w : View)
        × AfterStep (StoreData second) (data_place d.entry second) new w
        × StoreTells second d v new w
    store_step d second new inside is means =
        let f = entry_there key s steps h id n ns v at mine d.entry inside in
        let x : Entry = f.0 in
        let show = h.shows.words d.entry x f.1 in
        let wide = in_words d.entry inside in
        let before = data_before second d.entry in
        let i : ℕ = data_place d.entry second in
        let y : Entry = with_stored second (next_state d) x in
        let u : View = view_with_step v (StoreData second) in
        let w : View = view_with_store second u in
        let t : StepResult = result_without_receipt y (HeldShut d) in
        let z =
        change_of key s steps h id n ns v at mine (HeldShut d) (StoreData second) x t live is
        f.1 (kinds.fits_store x d second) (kinds.store_turn _ x d second) in
        let k : Takes key s.words (set s.words i new) d.entry v w x t = record {
          after =
              record {
                actor = stored_actor second u ∙ (λ j. record v.actor { phase = is j });
                numbers = stored_numbers second u;
                passes = stored_passes second u;
                opening = stored_opening second u;
                fronts = stored_fronts second u;
              };
          long = length-set s.words i new;
          show =
              data_set second s.words d.entry new x y (omega arith)
              (means ∙ stored_data second (next_state d) x)
              (stored_control second (next_state d) x) (stored_other second (next_state d) x)
              show;
          others = data_else second s.words d.entry new;
          stores =
              λ d' is'.
              subst (λ (q : Doing). AreStored w q y) (shut_same d d' is')
              (stored_marks second u d x
              (let a = h.shows.stored id v d x at is f.1 in
              record { first = a.first; second = a.second }));
          keeps = inl (subst (HoldsEntry d.entry) (sym is) refl);
          alone = λ d' all is'. absurd cc;
          calm = inr (inr (subst (HoldsEntry d.entry) (sym is) refl));
          lifts =
              λ q.
              inl (
                ap (λ (c : Control). c.shut) (stored_control second (next_state d) x) ∙ q,
                stored_published second (next_state d) x,
              );
        } in (
          w,
          turn_shown key s steps h id n ns v at mine d.entry w x t (set s.words i new) z k
              (StoreData second) (stored_taken second u)
              (moves_of key s steps h id n ns v at mine (HeldShut d) (StoreData second) x t
              (kinds.store_on second) (kinds.names_store C second) live is f.1
              (kinds.fits_store x d second) (kinds.store_turn _ x d second)),
          refl,
        )

    all_stored :
        (d : Doing) (x : Entry)
        → AreStored v d x
        → ((next_state d).valid ≡ true → (v.first_stored ≡ true) × (v.second_stored ≡ true))
        → is_stored x (next_state d) ≡ true
    unfolding is_stored
    all_stored d x a done = ⊎_elim {C = is_stored x (next_state d) ≡ true}
        (λ (valid : (next_state d).valid ≡ true).
        let p = done valid in
        λ i.
        not (valid i) ||
        (eq-eqb x.dword0 (next_state d).dword0 (a.first p.0) i && eq-eqb x.dword1
        (next_state d).dword1 (a.second p.1) i))
        (λ (none' : (next_state d).valid ≡ false).
        ap
        (λ q.
        not q || ((x.dword0 == (next_state d).dword0) && (x.dword1 == (next_state d).dword1)))
        none') (cases_Bool (next_state d).valid)

    -- A pass whose marks say so has stored the words.
    pub settle_may :
        (d : Doing)
        → d.entry < length (states_of key)
        → v.actor.phase ≡ HeldShut d
        → ((next_state d).valid ≡ true → (v.first_stored ≡ true) × (v.second_stored ≡ true))
        → is_stored (entry_at C d.entry) (next_state d) ≡ true
    settle_may d inside is done =
        let f = entry_there key s steps h id n ns v at mine d.entry inside in
        ap (λ z. is_stored z (next_state d)) (entry_is C d.entry f.0 f.1)
        ∙ all_stored d f.0 (h.shows.stored id v d f.0 at is f.1) done

    pub settle_step :
        (d : Doing) (new : ℕ)
        → d.entry < length (states_of key)
        → v.actor.phase ≡ HeldShut d
        → is_stored (entry_at C d.entry) (next_state d) ≡ true
        → new ≡ word_of (settled_word (next_state d))
        → (w : View) × AfterStep (Settle) (control_place d.entry) new w × SettleTells d v new w
    settle_step d new inside is stored' means =
        let f = entry_there key s steps h id n ns v at mine d.entry inside in
        let x : Entry = f.0 in
        let show = h.shows.words d.entry x f.1 in
        let wide = in_words d.entry inside in
        let i : ℕ = control_place d.entry in
        let y : Entry = settled_entry x (next_state d) in
        let ok : ShutOk d x = phase_ok d.entry (HeldShut d) x is refl f.1 in
        let up : (next_state d).stamp ≡ d.noted.stamp + 1 = raised d ok.op ok.changes in
        let was : x.published.stamp ≡ d.noted.stamp = ap (λ (z : State). z.stamp) ok.published ∙
        noted_stamp d in
        let may : is_stored x (next_state d) ≡ true = ap (λ z. is_stored z (next_state d))
        (sym (entry_is C d.entry x f.1)) ∙ stored' in
        let w : View = view_with_receipt (view_with_step v Settle) (receipt d) in
        let t : StepResult = result_with_receipt y (receipt d) in
        let z = change_of key s steps h id n ns v at mine (HeldShut d) Settle x t live is f.1
        (kinds.fits_settle x d may) (kinds.settle_turn _ x d) in
        let k : Takes key s.words (set s.words i new) d.entry v w x t = record {
          after =
              record { actor = refl; numbers = refl; passes = refl; opening = refl; fronts = refl };
          long = length-set s.words i new;
          show = control_set s.words d.entry new x y (omega arith) means refl refl show;
          others = control_else s.words d.entry new;
          stores = λ d' is'. absurd cc;
          keeps = inr (refl, refl);
          alone = λ d' all is'. absurd cc;
          calm = inr (inr (subst (HoldsEntry d.entry) (sym is) refl));
          lifts = λ q. inr (omega arith);
        } in (
          w,
          turn_shown key s steps h id n ns v at mine d.entry w x t (set s.words i new) z k Settle
              refl
              (moves_of key s steps h id n ns v at mine (HeldShut d) Settle x t kinds.settle_on
              (kinds.names_settle C) live is f.1 (kinds.fits_settle x d may)
              (kinds.settle_turn _ x d)),
          (
            refl,
            turn_ahead key s steps h id n ns v at mine d.entry w x t (set s.words i new) z k
                (receipt d) refl,
          ),
        )

    pub release_step :
        (d : Doing)
        → d.entry < length (states_of key)
        → v.actor.phase ≡ Held d
        → (is_read d && not (changes d)) ≡ true
        → (w : View)
        × AfterStep (Release) (control_place d.entry)
        (bit_and (get_or s.words (control_place d.entry) 0) 9223372036854775807) w
        × ReleaseTells d v (get_or s.words (control_place d.entry) 0) w
    release_step d inside is may =
        let f = entry_there key s steps h id n ns v at mine d.entry inside in
        let x : Entry = f.0 in
        let show = h.shows.words d.entry x f.1 in
        let low = ((kept key s steps h id n ns v at mine).1.entries d.entry x f.1).low in
        let wide = in_words d.entry inside in
        let ok : HeldOk d x = phase_ok d.entry (Held d) x is refl f.1 in
        let i : ℕ = control_place d.entry in
        let found : ℕ = get_or s.words i 0 in
        let m : ℕ = bit_and found 9223372036854775807 in
        let r : Receipt = receipt (with_noted d x.control) in
        let w : View = view_with_receipt (view_with_step v Release) r in
        let t : StepResult = result_with_receipt (locked_entry x false) r in
        let turned : m ≡ word_of (locked_entry x false).control = ap
        (λ k. bit_and k 9223372036854775807) show.control ∙ unlock_word x.control low in
        let z = change_of key s steps h id n ns v at mine (Held d) Release x t live is f.1
        (kinds.fits_release x d may) (kinds.release_turn _ x d) in
        let k : Takes key s.words (set s.words i m) d.entry v w x t = record {
          after =
              record { actor = refl; numbers = refl; passes = refl; opening = refl; fronts = refl };
          long = length-set s.words i m;
          show =
              control_set s.words d.entry m x (locked_entry x false) (omega arith) turned refl refl
              show;
          others = control_else s.words d.entry m;
          stores = λ d' is'. absurd cc;
          keeps = inr (refl, refl);
          alone = λ d' all is'. absurd cc;
          calm = inr (inr (subst (HoldsEntry d.entry) (sym is) refl));
          lifts = λ q. inl (q, refl);
        } in (
          w,
          turn_shown key s steps h id n ns v at mine d.entry w x t (set s.words i m) z k Release
              refl
              (moves_of key s steps h id n ns v at mine (Held d) Release x t kinds.release_on
              (kinds.names_release C) live is f.1 (kinds.fits_release x d may)
              (kinds.release_turn _ x d)),
          (
            x.control,
            (show.control, low),
            sym ok.valid,
            sym ok.stamp,
            refl,
            turn_ahead key s steps h id n ns v at mine d.entry w x t (set s.words i m) z k r refl,
          ),
        )
