-- The steps of an access: looks, data loads and marks.
use Rattle.std.specs.Prelude.{slice_get, if◌then◌else◌, option_map}
use Rattle.std.proofs.Common.{◌≡◌, ◌⊎◌, ℕ, suc, bit_and, ◌<◌, ◌==◌, ◌&&◌, Bool, true, false, List, [], ◌∷◌, inl, inr, ⊎_elim, refl, sym, ap, ◌∙◌, subst, arith, Option, Some, None, find, length}
use Rattle.std.proofs.lemmas.Bool.{and_parts, cases_Bool, cond_both, eqb-true}
use Rattle.std.proofs.lemmas.Option.{slice_get-get_or, slice_get_within}
use Rattle.std.specs.Option.{option_or}
use Rattle.entry_model.specs.State.{State, empty_state, OnlyRaisesBits}
use Rattle.entry_model.specs.declared.operation.Op.{Op}
use Rattle.entry_model.specs.Receipt.{is_access}
use Rattle.entry_model.specs.CachedLines.{Holds, IsCurrent}
use Rattle.entry_model.specs.declared.receipt.Receipt.{Receipt}
use Rattle.lock_core.specs.declared.doing.Doing.{Doing}
use Rattle.lock_core.specs.declared.entry.Entry.{Entry}
use Rattle.lock_core.specs.declared.phase.Phase.TheVariants.{Idle, Looked}
use Rattle.lock_core.specs.declared.sighting.Sighting.{Sighting}
use Rattle.lock_core.specs.Words.{without_bits, state_of}
use Rattle.lock_core.specs.Machine.{Actor, Machine, opening_at, is_at, words_in, words_at, words_seen_in, words_seen, HoldsEntry}
use Rattle.lock_core.specs.Steps.{result_without_receipt, new_doing, with_loaded}
use Rattle.lock_core.proofs.Kept.{IsOn, IsFresh, LookedOk, PhaseOk, as_line, Kept}
use Rattle.lock_core.proofs.Moves.{Change}
use Rattle.lock_core.proofs.Lists.{some_same, none_some}
use Rattle.lock_core.proofs.Noted.{cleared_same, state_canonical}
use Rattle.lock_core.proofs.Steps.{only_phase, loaded_entry}

-- ---- words that were seen
found_at :
    (p : Sighting → Bool) (ls : List Sighting) (l : Sighting)
    → find p ls ≡ Some l
    → (j : ℕ) × (slice_get ls j ≡ Some l) × (p l ≡ true)
found_at p [] l h = absurd (none_some l h)
found_at p (x ∷ xs) l h = at (cases_Bool (p x)) h (found_at p xs l) where
  at :
      (p x ≡ true) ⊎ (p x ≡ false)
      → find p (x ∷ xs) ≡ Some l
      → (find p xs ≡ Some l → (j : ℕ) × (slice_get xs j ≡ Some l) × (p l ≡ true))
      → (j : ℕ) × (slice_get (x ∷ xs) j ≡ Some l) × (p l ≡ true)
  at (inl here) h rest = let same :
      x ≡ l = some_same x l (rw here at h) in (0, ap (λ y. Some y) same, ap p (sym same) ∙ here)
  at (inr there) h rest = let f = rest (rw there at h) in (suc f.0, f.1, f.2)

one_of :
    (o : Option Sighting) (start : Option (ℕ × ℕ)) (w : ℕ × ℕ)
    → option_or (option_map words_in o) start ≡ Some w
    → ((l : Sighting) × (o ≡ Some l) × (words_in l ≡ w)) ⊎ (start ≡ Some w)
one_of None start w h = inr h
one_of (Some l) start w h = inl (l, refl, some_same (words_in l) w h)

words_at_is :
    (s : State) (stamp : ℕ) (w : ℕ × ℕ)
    → words_at s stamp ≡ Some w
    → (s.valid ≡ true) × (s.stamp ≡ stamp) × ((s.dword0, s.dword1) ≡ w)
words_at_is s stamp w = at (cases_Bool (s.valid && (s.stamp == stamp))) where
  at :
      ((s.valid && (s.stamp == stamp)) ≡ true) ⊎ ((s.valid && (s.stamp == stamp)) ≡ false)
      → words_at s stamp ≡ Some w
      → (s.valid ≡ true) × (s.stamp ≡ stamp) × ((s.dword0, s.dword1) ≡ w)
  at (inl is) h = let p = and_parts _ _ is in let e :
      Some (s.dword0, s.dword1) ≡ Some w =
      rw is at h in (p.0, eqb-true s.stamp stamp p.1, some_same (s.dword0, s.dword1) w e)
  at (inr not') h = absurd (none_some w (rw not' at h))

-- The doublewords of a state that the words of an entry stand for.
abbrev AreIts : Entry → ℕ × ℕ → Type 0
AreIts x w = (x.dword0 ≡ w.0) × (without_bits x.dword1 ≡ without_bits w.1)

words_of_published :
    (x : Entry) (a b : ℕ)
    → x.published ≡ state_of x.control x.dword0 x.dword1
    → x.control.valid ≡ true
    → x.published.dword0 ≡ a
    → x.published.dword1 ≡ b
    → AreIts x (a, b)
words_of_published x a b is valid first second =
    let one : x.published.dword0 ≡ x.dword0 = ap (λ (s : State). s.dword0) is ∙ ap
    (λ v. if v then x.dword0 else 0) valid in
    let two : x.published.dword1 ≡ without_bits x.dword1 = ap (λ (s : State). s.dword1) is ∙ ap
    (λ v. if v then without_bits x.dword1 else 0) valid in
    let apart = ap (λ (s : State). s) is in (
      sym one ∙ first,
      sym two
          ∙ sym
          (cleared_same x.published.dword1
          (subst (λ (s : State). bit_and s.dword1 0x180 ≡ 0) (sym is)
          (state_canonical x.control x.dword0 x.dword1).apart))
          ∙ ap without_bits second,
    )

module _ (opening : List State) (m : Machine) (log : List Receipt) (k : Kept opening m log) where
  line_words :
      (i e j : ℕ) (a : Actor) (x : Entry) (l : Sighting)
      → slice_get m.entries e ≡ Some x
      → slice_get m.actors i ≡ Some a
      → x.control.shut ≡ false
      → x.control.valid ≡ true
      → slice_get a.lines j ≡ Some l
      → is_at e x.control.stamp l ≡ true
      → AreIts x (words_in l)
  line_words i e j a x l at me free valid there is =
      let p = and_parts _ _ is in
      let published = (k.entries e x at).free free in
      let stamp : x.published.stamp ≡ l.stamp = ap (λ (s : State). s.stamp) published ∙ sym
      (eqb-true l.stamp x.control.stamp p.1) in
      let holds : Holds (as_line l) x.published = k.lines i j a l x me there
      (subst (λ n. slice_get m.entries n ≡ Some x) (sym (eqb-true l.entry e p.0)) at) in
      ⊎_elim {C = AreIts x (words_in l)}
      (λ (past : l.stamp < x.published.stamp). absurd (omega arith))
      (λ (now : IsCurrent (as_line l) x.published).
      words_of_published x l.dword0 l.dword1 published valid now.dword0 now.dword1) holds

  opening_words :
      (e : ℕ) (x : Entry) (w : ℕ × ℕ)
      → slice_get m.entries e ≡ Some x
      → x.control.shut ≡ false
      → x.control.valid ≡ true
      → words_at (opening_at m e) x.control.stamp ≡ Some w
      → AreIts x w
  opening_words e x w at free valid h =
      let s : State = opening_at m e in
      let is = words_at_is s x.control.stamp w h in
      let published = (k.entries e x at).free free in
      let within : e < length m.opening =
      (let n = slice_get_within m.entries e x at in
      let o = ap length k.opens in
      let z = k.size in
      omega arith) in
      let from : slice_get opening e ≡ Some s = subst (λ l. slice_get l e ≡ Some s) k.opens
      (slice_get-get_or m.opening e (empty_state 0) within) in
      let stamp : x.published.stamp ≡ s.stamp = ap (λ (z : State). z.stamp) published ∙ sym is.1 in
      ⊎_elim {C = AreIts x w}
      (λ (same : OnlyRaisesBits s x.published).
      subst (AreIts x) is.2
      (words_of_published x s.dword0 s.dword1 published valid same.dword0 same.dword1))
      (λ (more : s.stamp < x.published.stamp). absurd (omega arith)) (k.since e s x from at)

  seen_are :
      (i e : ℕ) (a : Actor) (x : Entry) (w : ℕ × ℕ)
      → slice_get m.entries e ≡ Some x
      → slice_get m.actors i ≡ Some a
      → x.control.shut ≡ false
      → words_seen m a e x.control ≡ Some w
      → AreIts x w
  unfolding words_seen words_seen_in
  seen_are i e a x w at me free = by (cases_Bool x.control.valid) where
    by :
        (x.control.valid ≡ true) ⊎ (x.control.valid ≡ false)
        →
        (if x.control.valid then words_seen_in a.lines (opening_at m e) e x.control.stamp else
        None)
        ≡ Some w
        → AreIts x w
    by (inr none) h = absurd (none_some w (rw none at h))
    by (inl valid) h =
        let h' : words_seen_in a.lines (opening_at m e) e x.control.stamp ≡ Some w = rw valid at h
        in
        ⊎_elim {C = AreIts x w}
        (λ
        (q :
        (l : Sighting)
        × (find (is_at e x.control.stamp) a.lines ≡ Some l)
        × (words_in l ≡ w)).
        let f = found_at (is_at e x.control.stamp) a.lines q.0 q.1 in
        subst (AreIts x) q.2 (line_words i e f.0 a x q.0 at me free valid f.1 f.2))
        (λ (q : words_at (opening_at m e) x.control.stamp ≡ Some w).
        opening_words e x w at free valid q)
        (one_of (find (is_at e x.control.stamp) a.lines)
        (words_at (opening_at m e) x.control.stamp) w h')

  -- ---- the steps
  module _ (i : ℕ) (a : Actor) (me : slice_get m.actors i ≡ Some a) (live : a.live ≡ true) where
    pub look_change :
        (e : ℕ) (x : Entry) (op : Op)
        → slice_get m.entries e ≡ Some x
        → a.phase ≡ Idle
        → is_access op ≡ true
        → Change m e i x a
        (if x.control.shut then result_without_receipt x Idle else result_without_receipt x
        (Looked (new_doing e op x.control (words_seen m a e x.control))))
    look_change e x op at idle access =
        let free : (e' : ℕ) → ¬ HoldsEntry e' a.phase = λ e' h. subst (HoldsEntry e') idle h in
        let d : Doing = new_doing e op x.control (words_seen m a e x.control) in
        cond_both x.control.shut (result_without_receipt x Idle)
        (result_without_receipt x (Looked d)) (Change m e i x a)
        (λ _.
        only_phase opening m log k i a me live e x Idle at free (λ e' on. absurd on) (λ h. h) tt)
        (λ unshut.
        only_phase opening m log k i a me live e x (Looked d) at free (λ e' on. sym on) (λ h. h)
        (record {
          older = omega arith;
          op = access;
          free = unshut;
          first = λ f n h. absurd (none_some n h);
          second = λ f n h. absurd (none_some n h);
          seen = λ f w h. seen_are i e a x w at me unshut h;
          bits = λ f. record { valid = refl; referenced = λ b. b; changed = λ b. b };
        }))

    module _ (d : Doing) (x : Entry) (at : slice_get m.entries d.entry ≡ Some x)
        (is : a.phase ≡ Looked d) where
      pub looked_ok : LookedOk d x
      looked_ok =
          subst (λ p. PhaseOk p x) is
          (k.actors i d.entry a x me (subst (IsOn d.entry) (sym is) refl) at)

      pub no_lock : (e' : ℕ) → ¬ HoldsEntry e' a.phase
      no_lock e' h = subst (HoldsEntry e') is h

      pub idle_change : Change m d.entry i x a (result_without_receipt x Idle)
      idle_change =
          only_phase opening m log k i a me live d.entry x Idle at no_lock (λ e' on. absurd on)
          (λ h. h) tt

      looked_loaded : (second : Bool) → LookedOk (with_loaded second x d) x
      looked_loaded true = let ok : LookedOk d x = looked_ok in
          let fresh : IsFresh (with_loaded true x d) x → IsFresh d x = λ f. record {
            stamp = f.stamp;
            free = f.free;
          } in
          record {
            older = ok.older;
            op = ok.op;
            free = ok.free;
            first = λ f. ok.first (fresh f);
            second = λ f n e. some_same x.dword1 n e;
            seen = λ f. ok.seen (fresh f);
            bits = λ f. ok.bits (fresh f);
          }
      looked_loaded false = let ok : LookedOk d x = looked_ok in
          let fresh : IsFresh (with_loaded false x d) x → IsFresh d x = λ f. record {
            stamp = f.stamp;
            free = f.free;
          } in
          record {
            older = ok.older;
            op = ok.op;
            free = ok.free;
            first = λ f n e. some_same x.dword0 n e;
            second = λ f. ok.second (fresh f);
            seen = λ f. ok.seen (fresh f);
            bits = λ f. ok.bits (fresh f);
          }

      pub looked_load_change :
          (second : Bool)
          → Change m d.entry i x a (result_without_receipt x (Looked (with_loaded second x d)))
      looked_load_change second =
          only_phase opening m log k i a me live d.entry x (Looked (with_loaded second x d)) at
          no_lock (λ e' on. sym on ∙ loaded_entry second x d) (λ h. h) (looked_loaded second)
