-- Each atomic step by a line that was seen keeps the rule.
use Rattle.std.specs.Prelude.{slice_get, is_some, if◌then◌else◌, option_map, Contains, unwrap_or}
use Rattle.std.proofs.Common.{◌≡◌, ℕ, ◌+◌, ◌*◌, ◌<◌, ◌==◌, ◌&&◌, ◌||◌, not, Bool, true, false, List, ◌∷◌, length, set, get_or, ⊎_elim, refl, sym, ap, ◌∙◌, subst, arith, eqb, eq-eqb, ne_eqb, find, Option, Some, None}
use Rattle.std.proofs.lemmas.Bool.{false≢true, or_parts, cases_Bool}
use Rattle.std.proofs.lemmas.Option.{slice_get-get_or}
use Rattle.std.specs.Option.{option_or}
use Rattle.std.proofs.lemmas.List.{set-set, set-get_or}
use mathlib.Core.Logic.{dite}
use native.Mathlib.Decide.{ℕ_discrete}
use mathlib.Core.Option.{some}
use Rattle.atomic_table.specs.Table.{State as TableState}
use Rattle.entry_model.specs.State.{State, empty_state, OnlyRaisesBits}
use Rattle.entry_model.specs.declared.line.Line.{Line}
use Rattle.entry_model.specs.declared.operation.Op.{Op}
use Rattle.entry_model.specs.CachedLines.{Holds, IsCurrent}
use Rattle.entry_model.specs.Receipt.{is_access}
use Rattle.entry_model.specs.Fronts.{front_at, IsGone}
use Rattle.entry_model.specs.Run.{state_at}
use Rattle.lock_core.specs.declared.control.Control.{Control}
use Rattle.lock_core.specs.declared.doing.Doing.{Doing}
use Rattle.lock_core.specs.declared.entry.Entry.{Entry}
use Rattle.lock_core.specs.declared.phase.Phase.{Phase}
use Rattle.lock_core.specs.declared.phase.Phase.TheVariants.{Idle, HeldShut, Looked}
use Rattle.lock_core.specs.declared.sighting.Sighting.{Sighting}
use Rattle.lock_core.specs.declared.step.Step.{Step}
use Rattle.lock_core.specs.Words.{without_bits, is_read, changes, next_state}
use Rattle.lock_core.specs.Machine.{Actor, Machine, is_at, words_in, words_at, words_seen_in, words_seen, opening_at, HoldsEntry}
use Rattle.lock_core.specs.Steps.{new_doing}
use Rattle.lock_core.specs.Laws.{sighting_by}
use Rattle.lock_core.proofs.Kept.{IsFresh}
use Rattle.lock_core.proofs.Lists.{set_again, some_of}
use Rattle.lock_core.proofs.Noted.{bits_cleared, cleared_same}
use Rattle.entry_lock.specs.declared.rule.View.{View}
use Rattle.entry_lock.specs.declared.rule.Opening.{Opening}
use Rattle.entry_lock.specs.Layout.{word_of, Means, control_place}
use Rattle.entry_lock.specs.Views.{states_of}
use Rattle.entry_lock.specs.Rule.{FrontFits, Shows, ShowsSteps, ShowsRun, machine_after}
use Rattle.entry_lock.specs.StepViews.{view_with_step, view_in_phase, view_with_count, raised_fronts, view_past}
use Rattle.entry_lock.specs.AccessSteps.{AreAlike, is_decided}
use Rattle.entry_lock.specs.SeenLines.{IsSeen}
use Rattle.entry_lock.specs.LineSteps.{is_gone_from, doing_by_line, LineLookTells, LineSecondLookTells, LineMarkTells}
use Rattle.entry_lock.proofs.Bits.{same_word}
use Rattle.entry_lock.proofs.ViewLists.{set_view}
use Rattle.entry_lock.proofs.Frame.{Fronts, other_phase, Frame, shows_put}
use Rattle.entry_lock.proofs.PassSteps.{kept, me, entry_there, has_number}
use Rattle.entry_lock.proofs.TakenSteps.{own_still}
use Rattle.lock_core.specs.declared.step.Step.TheVariants.{Look, Mark}
use Rattle.entry_lock.proofs.AccessOperations.{look_open_step, look_again_step, mark_step}
use Rattle.entry_lock.proofs.Closings.{seen_holds}
use lib.ListN.{get_elem?}
use prog.Atomic.{either}
use Rattle.entry_lock.proofs.LineFronts.{raised_low, raised_else, raised_length, raised_high, both_ok, stays, gone_still, gone_front, find_has, or_first, or_second}

module _ (key : Opening) (s : TableState ℕ View) (steps : List (ℕ × Step))
    (h : ShowsSteps key steps s.words s.views) (id n : ℕ) (ns : List ℕ) (v : View)
    (at : get_elem? s.views id ≡ some v) (mine : v.numbers ≡ n ∷ ns) where
  abbrev C : Machine
  C = machine_after key steps

  -- ---- the front rises, and nothing else changes
  pub raise_shown :
      (line : Line) (k : Control) (w : View)
      → line.entry < length (states_of key)
      → IsSeen v.actor.lines (states_of key) line
      → v.actor.phase ≡ Idle
      → Means (get_or s.words (control_place line.entry) 0) k
      → is_gone_from k line.stamp ≡ true
      → w.actor ≡ v.actor
      → w.numbers ≡ v.numbers
      → w.passes ≡ v.passes
      → w.opening ≡ v.opening
      → w.fronts ≡ raised_fronts v.fronts line.entry ((line.stamp + 1) * 4)
      → w.taken ≡ v.taken
      → ShowsSteps key steps s.words (set s.views id w) × IsGone w.fronts line
  raise_shown line k w inside seen idle means left acts same full opens fronts taken =
      let e : ℕ = line.entry in
      let f = entry_there key s steps h id n ns v at mine e inside in
      let x : Entry = f.0 in
      let show = h.shows.words e x f.1 in
      let ok = (kept key s steps h id n ns v at mine).1.entries e x f.1 in
      let is : x.control ≡ k = same_word (get_or s.words (control_place e) 0) x.control k
      (show.control, ok.low) means in
      let holds : Holds line x.published = seen_holds key s steps h id n ns v at mine line x inside
      f.1 seen in
      let gone = gone_front e x line ok.free holds
      (ap (λ (c : Control). is_gone_from c line.stamp) is ∙ left) in
      let q : ℕ = (line.stamp + 1) * 4 in
      let phase : w.actor.phase ≡ Idle = ap (λ (a : Actor). a.phase) acts ∙ idle in
      let fr : Fronts e x x v w = record {
        mine =
            subst (λ (z : Phase × List ℕ). FrontFits z.0 e x (front_at z.1 e))
            (λ i. (sym phase i, sym fronts i))
            (both_ok e x (front_at v.fronts e) q (front_at (raised_fronts v.fronts e q) e)
            (other_phase v.actor.phase Idle e x (front_at v.fronts e) (λ z. z)
            (h.shows.fronts id e v x at f.1)) gone
            (λ m a b. raised_low v.fronts e q m a b));
        level = λ e' other. ap (λ l. front_at l e') fronts ∙ raised_else v.fronts e q e' other;
        free = λ e' other holds'. subst (HoldsEntry e') phase holds';
        others = λ p front ok'. ok';
      } in
      let frame : Frame key s id e v w x x s.words = record {
        numbers = same;
        passes = full;
        opening = opens;
        size = ap length fronts ∙ raised_length v.fronts e q;
        long = refl;
        show = show;
        others = λ e' z other show'. show';
        stores = λ d is'. (let b : Idle ≡ HeldShut d = sym phase ∙ is' in absurd cc);
        keeps = λ j u d other is' shut on. (refl, refl);
        alone = λ d all is'. (let b : Idle ≡ Looked d = sym phase ∙ is' in absurd cc);
        fronts = fr;
      } in
      let my = me key s steps h id n ns v at mine in
      let whole = h.shows.whole id v at (has_number key s steps h id n ns v at mine) in (
        record {
          shows =
              subst (λ (m : Machine). Shows key m s.words (set s.views id w))
              (λ i.
              record {
                opening = C.opening;
                entries = set_again C.entries e x f.1 i;
                actors = ((ap (set C.actors n) acts) ∙ set_again C.actors n v.actor my) i;
              })
              (shows_put key C s h.shows id e n ns v w x x s.words at mine f.1 frame);
          allowed = h.allowed;
          own = own_still key s steps h id n ns v w at mine same taken;
        },
        subst (λ l. IsGone l line) (sym fronts)
            (raised_high v.fronts e q (let u = whole.1 in omega arith)),
      )

  -- The doublewords of a line that was seen, where the entry is at the line's stamp.
  seen_some :
      (line : Line) (x : Entry)
      → line.entry < length (states_of key)
      → slice_get C.entries line.entry ≡ Some x
      → IsSeen v.actor.lines (states_of key) line
      → x.control.shut ≡ false
      → x.control.valid ≡ true
      → x.control.stamp ≡ line.stamp
      → is_some (words_seen C v.actor line.entry x.control) ≡ true
  unfolding words_seen words_seen_in
  seen_some line x inside here seen open' valid stamp =
      let k = kept key s steps h id n ns v at mine in
      let published = (k.1.entries line.entry x here).free open' in
      let start : State = opening_at C line.entry in
      let first : Option Sighting = find (is_at line.entry x.control.stamp) v.actor.lines in
      ap
      (λ b.
      is_some
      (if b then option_or (option_map words_in first) (words_at start x.control.stamp)
      else None)) valid
      ∙ ⊎_elim
      {C =
      is_some (option_or (option_map words_in first) (words_at start x.control.stamp))
      ≡ true}
      (λ (has : Contains v.actor.lines (sighting_by line)).
      or_first first (words_at start x.control.stamp)
      (find_has (is_at line.entry x.control.stamp) v.actor.lines has.0 (sighting_by line)
      (slice_get-get_or v.actor.lines has.0 (sighting_by line) has.1
      ∙ ap (λ z. Some z) has.2)
      (λ i.
      eq-eqb line.entry line.entry refl i && eq-eqb line.stamp x.control.stamp (sym stamp)
      i)))
      (λ (holds : Holds line (state_at (states_of key) line.entry)).
      let from : slice_get (states_of key) line.entry ≡ Some (state_at (states_of key) line.entry) =
      slice_get-get_or (states_of key) line.entry (empty_state 0) inside in
      let same : start ≡ state_at (states_of key) line.entry = ap (λ l. state_at l line.entry)
      k.1.opens in
      let here' : x.published.stamp ≡ line.stamp = ap (λ (z : State). z.stamp) published ∙ stamp in
      ⊎_elim
      {C =
      is_some (option_or (option_map words_in first) (words_at start x.control.stamp))
      ≡ true}
      (λ (past : line.stamp < (state_at (states_of key) line.entry).stamp).
      ⊎_elim
      {C =
      is_some (option_or (option_map words_in first) (words_at start x.control.stamp))
      ≡ true}
      (λ (further : OnlyRaisesBits (state_at (states_of key) line.entry) x.published).
      absurd (let u = further.stamp in omega arith))
      (λ (more : (state_at (states_of key) line.entry).stamp < x.published.stamp).
      absurd (omega arith))
      (k.1.since line.entry (state_at (states_of key) line.entry) x from here))
      (λ (now : IsCurrent line (state_at (states_of key) line.entry)).
      let test : (start.valid && (start.stamp == x.control.stamp)) ≡ true = λ i.
      (ap (λ (z : State). z.valid) same ∙ now.valid) i && eq-eqb start.stamp x.control.stamp
      (ap (λ (z : State). z.stamp) same ∙ now.stamp ∙ sym stamp) i in
      let is : words_at start x.control.stamp ≡ Some (start.dword0, start.dword1) = ap
      (λ b. if b then Some (start.dword0, start.dword1) else None) test in
      ap (λ o. is_some (option_or (option_map words_in first) o)) is
      ∙ or_second first (start.dword0, start.dword1)) holds) seen

module _ (key : Opening) (s : TableState ℕ View) (steps : List (ℕ × Step))
    (h : ShowsSteps key steps s.words s.views) (id n : ℕ) (ns : List ℕ) (v : View)
    (at : get_elem? s.views id ≡ some v) (mine : v.numbers ≡ n ∷ ns) (live : v.actor.live ≡ true)
  where
    abbrev D : Machine
    D = machine_after key steps

    abbrev Next : ℕ → ℕ → View → TableState ℕ View
    Next i m w = record { words = set s.words i m; homes = s.homes; views = set s.views id w }

    pub known_step :
        (line : Line) (op : Op)
        → line.entry < length (states_of key)
        → IsSeen v.actor.lines (states_of key) line
        → v.actor.phase ≡ Idle
        → is_access op ≡ true
        → (w : View)
        × ShowsRun key
        (Next (control_place line.entry) (get_or s.words (control_place line.entry) 0) w)
        × LineLookTells line op v (get_or s.words (control_place line.entry) 0) w
    known_step line op inside seen idle access =
        let e : ℕ = line.entry in
        let f = entry_there key s steps h id n ns v at mine e inside in
        let x : Entry = f.0 in
        let show = h.shows.words e x f.1 in
        let ok = (kept key s steps h id n ns v at mine).1.entries e x f.1 in
        let found : ℕ = get_or s.words (control_place e) 0 in
        ⊎_elim
        {C =
        (w : View)
        × ShowsRun key (Next (control_place e) found w)
        × LineLookTells line op v found w}
        (λ (left : is_gone_from x.control line.stamp ≡ true).
        let w : View = view_with_count (view_past v line) e found found in
        let r = raise_shown key s steps h id n ns v at mine line x.control w inside seen idle
        (show.control, ok.low) left refl refl refl refl refl refl in (
          w,
          (
            steps,
            subst (λ l. ShowsSteps key steps l (set s.views id w))
                (sym (set-get_or s.words (control_place e) 0)) r.0,
          ),
          (
            x.control,
            (show.control, ok.low),
            (λ _. (refl, r.1)),
            (λ stay. absurd (false≢true (sym stay ∙ left))),
          ),
        ))
        (λ (stay : is_gone_from x.control line.stamp ≡ false).
        let p = stays x.control line.stamp stay in
        let d : Doing = new_doing e op x.control (words_seen D v.actor e x.control) in
        let l = look_open_step key s steps h id n ns v at mine live e op x f.1 idle access p.0 in
        let got = some_of (words_seen D v.actor e x.control)
        (seen_some key s steps h id n ns v at mine line x inside f.1 seen p.0 p.1 p.2) in
        let fresh : IsFresh d x = record { stamp = refl; free = p.0 } in
        let same = l.1.seen fresh got.0 got.1 in
        let published = ok.free p.0 in
        let holds :
        Holds line x.published = seen_holds key s steps h id n ns v at mine line x inside
        f.1 seen in
        let words :
        (x.dword0 ≡ line.dword0) × (without_bits x.dword1 ≡ line.dword1) =
        ⊎_elim {C = (x.dword0 ≡ line.dword0) × (without_bits x.dword1 ≡ line.dword1)}
        (λ (past : line.stamp < x.published.stamp).
        absurd
        (let a = ap (λ (z : State). z.stamp) published in
        let b = p.2 in
        omega arith))
        (λ (now : IsCurrent line x.published). (
          sym (ap (λ b. if b then x.dword0 else 0) p.1)
              ∙ sym (ap (λ (z : State). z.dword0) published)
              ∙ now.dword0,
          sym (ap (λ b. if b then without_bits x.dword1 else 0) p.1)
              ∙ sym (ap (λ (z : State). z.dword1) published)
              ∙ now.dword1,
        )) holds in
        let clear : without_bits line.dword1 ≡ line.dword1 = ap without_bits (sym words.1) ∙
        cleared_same (without_bits x.dword1) (bits_cleared x.dword1) ∙ words.1 in
        let alike : AreAlike (doing_by_line line op x.control) d = record {
          entry = refl;
          op = refl;
          noted = refl;
          first = refl;
          second = refl;
          read =
              λ _. (λ i. not x.control.valid || is_some (got.1 i)) ∙ or_right (not x.control.valid);
          words =
              λ _. (
                ap (λ (o : Option (ℕ × ℕ)). (unwrap_or o (0, 0)).0) got.1 ∙ sym same.0 ∙ words.0,
                ap (λ (o : Option (ℕ × ℕ)). without_bits (unwrap_or o (0, 0)).1) got.1
                    ∙ sym same.1
                    ∙ words.1
                    ∙ sym clear,
              );
        } in (
          view_with_count (view_in_phase (view_with_step v (Look e op)) (Looked d)) e found found,
          ((n, Look e op) ∷ steps, l.0),
          (
            x.control,
            (show.control, ok.low),
            (λ left. absurd (false≢true (sym stay ∙ left))),
            (λ _. (d, alike, refl, clear)),
          ),
        ))
        (cases_Bool (is_gone_from x.control line.stamp))
      where
        or_right : (b : Bool) → (b || true) ≡ true
        or_right true = refl
        or_right false = refl

    -- ---- the step that finds a line gone
    -- After a miss the front rises too.
    raise_after :
        (line : Line) (k : Control) (step : Step) (e ae wanted : ℕ) (w : View)
        → line.entry < length (states_of key)
        → IsSeen v.actor.lines (states_of key) line
        → e ≡ line.entry
        → ShowsRun key (Next (control_place e) (get_or s.words (control_place e) 0) w)
        → w
        ≡ view_with_count (view_in_phase (view_with_step v step) Idle) ae wanted
        (get_or s.words (control_place e) 0)
        → Means (get_or s.words (control_place e) 0) k → is_gone_from k line.stamp ≡ true
        →
        (let w' : View = view_with_count
        (view_past (view_in_phase (view_with_step v step) Idle) line) ae wanted
        (get_or s.words (control_place e) 0) in
        ShowsRun key (Next (control_place e) (get_or s.words (control_place e) 0) w')
        × IsGone w'.fronts line)
    raise_after line k step e ae wanted w inside seen on shown is means left =
        let found : ℕ = get_or s.words (control_place e) 0 in
        let w' :
        View = view_with_count (view_past (view_in_phase (view_with_step v step) Idle) line)
        ae wanted found in
        let still :
        get_or (set s.words (control_place e) found) (control_place line.entry) 0 ≡ found
        = (λ i. get_or (set-get_or s.words (control_place e) 0 i) (control_place (sym on i)) 0) in
        let r =
        raise_shown key (Next (control_place e) found w) shown.0 shown.1 id n ns w
        (set_view s.views id v w at) (ap (λ (z : View). z.numbers) is ∙ mine) line k w' inside
        (subst (λ (z : View). IsSeen z.actor.lines (states_of key) line) (sym is) seen)
        (ap (λ (z : View). z.actor.phase) is) (still ∙ means.0, means.1) left
        (ap (λ (z : View). z.actor) (sym is)) (ap (λ (z : View). z.numbers) (sym is))
        (ap (λ (z : View). z.passes) (sym is)) (ap (λ (z : View). z.opening) (sym is))
        (ap (λ (z : View). raised_fronts z.fronts line.entry ((line.stamp + 1) * 4)) (sym is))
        (ap (λ (z : View). z.taken) (sym is)) in (
          (
            shown.0,
            subst (λ l. ShowsSteps key shown.0 (set s.words (control_place e) found) l)
                (set-set s.views id w w') r.0,
          ),
          r.1,
        )

    module _ (line : Line) (a d : Doing) (inside : d.entry < length (states_of key))
        (is : v.actor.phase ≡ Looked d) (al : AreAlike a d) (read : is_read a ≡ true)
        (on : a.entry ≡ line.entry) (stamp : a.noted.stamp ≡ line.stamp)
        (seen : IsSeen v.actor.lines (states_of key) line) where
      abbrev found : ℕ
      found = get_or s.words (control_place d.entry) 0

      abbrev wanted : ℕ
      wanted = word_of a.noted

      inside_line : line.entry < length (states_of key)
      inside_line = subst (λ e. e < length (states_of key)) (al.entry ∙ on) inside

      pub known_again_step :
          a.first ≡ None
          → a.second ≡ None
          → changes a ≡ false
          → (w : View)
          × ShowsRun key (Next (control_place d.entry) found w)
          × LineSecondLookTells line a v found w
      known_again_step first second still =
          let l = look_again_step key s steps h id n ns v at mine live a d inside is al read still
          in
          let shown : ShowsRun key (Next (control_place d.entry) found l.0) =
          ((n, Look d.entry d.op) ∷ steps, l.1) in
          let t = l.2 in
          ⊎_elim
          {C =
          (w : View)
          × ShowsRun key (Next (control_place d.entry) found w)
          × LineSecondLookTells line a v found w}
          (λ (holds : is_decided t.0 a ≡ true). (
            l.0,
            shown,
            (t.0, t.1, t.3, λ gone. absurd (false≢true (sym gone ∙ holds))),
          ))
          (λ (gone : is_decided t.0 a ≡ false).
          let left : is_gone_from t.0 line.stamp ≡ true = gone_still a t.0 line.stamp first second
          stamp (or_parts _ _ gone).1 in
          let r =
          raise_after line t.0 (Look a.entry a.op) d.entry a.entry wanted l.0 inside_line seen
          (al.entry ∙ on) shown (t.4 gone) t.1 left in (
            view_with_count
                (view_past (view_in_phase (view_with_step v (Look a.entry a.op)) Idle) line) a.entry
                wanted found,
            r.0,
            (
              t.0,
              t.1,
              (λ holds. absurd (false≢true (sym gone ∙ holds))),
              λ _. ((refl, r.1), left),
            ),
          ))
          (cases_Bool (is_decided t.0 a))

      pub known_mark_step :
          (new : ℕ)
          → changes a ≡ true
          → new
          ≡ word_of
          (record a.noted {
            referenced = (next_state a).referenced;
            changed = (next_state a).changed;
          })
          → (w : View)
          × ShowsRun key (Next (control_place d.entry) (either (eqb found wanted) new found) w)
          × LineMarkTells line a v found w
      known_mark_step new change means =
          let l = mark_step key s steps h id n ns v at mine live a d inside is al read new change
          means in
          let shown : ShowsRun key
          (Next (control_place d.entry) (either (eqb found wanted) new found) l.0) =
          ((n, Mark) ∷ steps, l.1) in
          let t = l.2 in
          dite
          {C =
          (w : View)
          × ShowsRun key
          (Next (control_place d.entry) (either (eqb found wanted) new found) w)
          × LineMarkTells line a v found w} (ℕ_discrete found wanted)
          (λ hit. (
            l.0,
            shown,
            (t.0, t.1, t.2, t.3, (λ miss. absurd (miss hit)), (λ miss. absurd (miss hit))),
          ))
          (λ miss.
          ⊎_elim
          {C =
          (w : View)
          × ShowsRun key
          (Next (control_place d.entry) (either (eqb found wanted) new found) w)
          × LineMarkTells line a v found w}
          (λ (left : is_gone_from t.0 line.stamp ≡ true).
          let same : either (eqb found wanted) new found ≡ found = ap (λ b. either b new found)
          (ne_eqb found wanted miss) in
          let r = raise_after line t.0 Mark d.entry a.entry wanted l.0 inside_line seen
          (al.entry ∙ on)
          (subst (λ m. ShowsRun key (Next (control_place d.entry) m l.0)) same shown) (t.4 miss)
          t.1 left in (
            view_with_count (view_past (view_in_phase (view_with_step v Mark) Idle) line) a.entry
                wanted found,
            subst
                (λ m.
                ShowsRun key
                (Next (control_place d.entry) m
                (view_with_count
                (view_past (view_in_phase (view_with_step v Mark) Idle) line) a.entry
                wanted found))) (sym same) r.0,
            (
              t.0,
              t.1,
              t.2,
              (λ hit. absurd (miss hit)),
              (λ _ _. (refl, r.1)),
              (λ _ stay. absurd (false≢true (sym stay ∙ left))),
            ),
          ))
          (λ (stay : is_gone_from t.0 line.stamp ≡ false). (
            l.0,
            shown,
            (
              t.0,
              t.1,
              t.2,
              (λ hit. absurd (miss hit)),
              (λ _ left. absurd (false≢true (sym stay ∙ left))),
              (λ m _. t.4 m),
            ),
          ))
          (cases_Bool (is_gone_from t.0 line.stamp)))
