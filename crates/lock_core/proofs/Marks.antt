-- How an access is decided: second looks and marks.
use Rattle.std.specs.Prelude.{slice_get, if◌then◌else◌}
use Rattle.std.proofs.Common.{◌≡◌, ◌⊎◌, ℕ, ◌&&◌, not, Bool, true, false, List, inl, inr, refl, sym, ap, ◌∙◌, subst, Some, unwrap_or}
use Rattle.std.proofs.lemmas.Bool.{and_parts, cases_Bool, cond_both, false≢true, eqb-true, not-true}
use Rattle.entry_model.specs.State.{State, OnlyRaisesBits}
use Rattle.entry_model.specs.Receipt.{is_access}
use Rattle.entry_model.specs.declared.receipt.Receipt.{Receipt}
use Rattle.entry_model.proofs.OperationLaws.{access_further, access_still}
use Rattle.entry_model.proofs.ReplyLaws.{empty_untouched}
use Rattle.lock_core.specs.declared.control.Control.{Control}
use Rattle.lock_core.specs.declared.doing.Doing.{Doing}
use Rattle.lock_core.specs.declared.entry.Entry.{Entry}
use Rattle.lock_core.specs.declared.phase.Phase.{Phase}
use Rattle.lock_core.specs.declared.phase.Phase.TheVariants.{Idle, Held, HeldShut, Looked}
use Rattle.lock_core.specs.Words.{without_bits, state_of, known_words, is_read, noted_state, next_state, changes, receipt, is_noted, is_still}
use Rattle.lock_core.specs.Machine.{Actor, Machine, HoldsEntry}
use Rattle.lock_core.specs.Steps.{result_without_receipt, result_with_receipt, with_noted, marked_entry, second_look}
use Rattle.lock_core.proofs.Kept.{EntryOk, IsFresh, HasMoreBits, LookedOk, PhaseOk, Kept}
use Rattle.lock_core.proofs.Moves.{Change}
use Rattle.lock_core.proofs.Noted.{or_has, cleared_same, same_words, state_is, known_words_of, still_is, still_if, next_canonical, noted_same}
use Rattle.lock_core.proofs.Steps.{looks_on, receipt_entry, receipt_before, receipt_after}
use Rattle.lock_core.proofs.Looks.{looked_ok, no_lock, idle_change}

-- ---- what one that looked knows
-- While the entry is at the noted stamp and isn't shut, its state is that of the word found and of
-- the known words.
published_is :
    (d : Doing) (x : Entry)
    → EntryOk x
    → LookedOk d x
    → IsFresh d x
    → is_read d ≡ true
    → x.published ≡ noted_state (with_noted d x.control)
unfolding noted_state
published_is d x entry ok fresh read =
    entry.free fresh.free
    ∙ same_words x.control x.dword0 x.dword1 _ _
    (λ v.
    known_words_of d.first d.second d.seen x.dword0 x.dword1
    (or_has d.noted.valid _ read ((ok.bits fresh).valid ∙ v)) (ok.first fresh)
    (ok.second fresh) (ok.seen fresh))

noting_same : (d : Doing) (l : Control) → l ≡ d.noted → with_noted d l ≡ d
noting_same d l e = λ i. with_noted d (e i)

fresh_noted : (d : Doing) (x : Entry) → LookedOk d x → x.control ≡ d.noted → IsFresh d x
fresh_noted d x ok same =
    record {
      stamp = ap (λ (c : Control). c.stamp) (sym same);
      free = ap (λ (c : Control). c.shut) same ∙ ok.free;
    }

bit_of :
    (v v' b b' : Bool)
    → v ≡ v'
    → (b ≡ true → b' ≡ true)
    → (if v then b else false) ≡ true
    → (if v' then b' else false) ≡ true
bit_of v true b b' e up h = up (subst (λ (z : Bool). (if z then b else false) ≡ true) e h)
bit_of v false b b' e up h =
    absurd (false≢true (subst (λ (z : Bool). (if z then b else false) ≡ true) e h))

-- The state by the word found has what the noted state has, and perhaps further bits.
more_bits :
    (d : Doing) (k : Control)
    → k.stamp ≡ d.noted.stamp
    → HasMoreBits d.noted k
    → OnlyRaisesBits (noted_state d) (noted_state (with_noted d k))
unfolding noted_state
more_bits d k stamp more = record {
  valid = sym more.valid;
  dword0 = ap (λ v. if v then (unwrap_or (known_words d) (0, 0)).0 else 0) (sym more.valid);
  dword1 =
      ap (λ v. if v then without_bits (unwrap_or (known_words d) (0, 0)).1 else 0) (sym more.valid);
  stamp = stamp;
  referenced =
      bit_of d.noted.valid k.valid d.noted.referenced k.referenced more.valid more.referenced;
  changed = bit_of d.noted.valid k.valid d.noted.changed k.changed more.valid more.changed;
}

still_with_more :
    (d : Doing) (k : Control)
    → is_access d.op ≡ true
    → k.stamp ≡ d.noted.stamp
    → HasMoreBits d.noted k
    → changes d ≡ false
    → next_state (with_noted d k) ≡ noted_state (with_noted d k)
unfolding next_state
still_with_more d k access stamp more still =
    (access_still (noted_state d) (noted_state (with_noted d k)) d.op access
    (more_bits d k stamp more) (still_is d still)).0

next_further : (d : Doing) → is_access d.op ≡ true → OnlyRaisesBits (noted_state d) (next_state d)
unfolding next_state
next_further d access = access_further (noted_state d) d.op access

-- An access that sets a bit found a valid entry.
change_is_valid :
    (d : Doing) → is_access d.op ≡ true → changes d ≡ true → (noted_state d).valid ≡ true
unfolding next_state
change_is_valid d access change = by (cases_Bool (noted_state d).valid) where
  by :
      ((noted_state d).valid ≡ true) ⊎ ((noted_state d).valid ≡ false)
      → (noted_state d).valid ≡ true
  by (inl valid) = valid
  by (inr none) =
      absurd
      (false≢true
      (sym (still_if d (empty_untouched (noted_state d) d.op access none)) ∙ change))

-- ---- what a mark leaves for those that are on the entry
marked_phase :
    (e : ℕ) (p : Phase) (x : Entry) (s : State)
    → x.control.shut ≡ false
    → HasMoreBits x.control (marked_entry x s).control
    → PhaseOk p x
    → PhaseOk p (marked_entry x s)
marked_phase e Idle x s free more ok = tt
marked_phase e (Held d) x s free more ok =
    record {
      locked = ok.locked;
      free = ok.free;
      valid = ok.valid;
      stamp = ok.stamp;
      first = ok.first;
      second = ok.second;
      seen = ok.seen;
      op = ok.op;
    }
marked_phase e (HeldShut d) x s free more ok = absurd (false≢true (sym free ∙ ok.shut))
marked_phase e (Looked d) x s free more ok =
    looks_on d x (marked_entry x s) refl refl refl refl more ok

module _ (opening : List State) (m : Machine) (log : List Receipt) (k : Kept opening m log) (i : ℕ)
    (a : Actor) (me : slice_get m.actors i ≡ Some a) (live : a.live ≡ true) (d : Doing) (x : Entry)
    (at : slice_get m.entries d.entry ≡ Some x) (is : a.phase ≡ Looked d) where
  ok : LookedOk d x
  ok = looked_ok opening m log k i a me live d x at is

  free : (e' : ℕ) → ¬ HoldsEntry e' a.phase
  free = no_lock opening m log k i a me live d x at is

  idle : Change m d.entry i x a (result_without_receipt x Idle)
  idle = idle_change opening m log k i a me live d x at is

  -- A receipt that leaves the entry as it is.
  told :
      (d' : Doing)
      → d'.entry ≡ d.entry
      → x.published ≡ noted_state d'
      → next_state d' ≡ noted_state d'
      → Change m d.entry i x a (result_with_receipt x (receipt d'))
  told d' entry published still = record {
    here = at;
    me = me;
    live = live;
    entry = k.entries d.entry x at;
    mine = λ e' on. absurd on;
    ok = tt;
    keeps = λ j b other is on ok'. ok';
    sole = λ h. absurd h;
    locks = λ l. inr (l, free d.entry);
    before = λ e' h. absurd (free e' h);
    tells = (
      receipt_entry d' ∙ entry,
      receipt_before d' ∙ sym published,
      receipt_after d' ∙ still ∙ sym published,
    );
  }

  by_the_word :
      (is_read d && not (changes d)) ≡ true
      → is_noted x.control d.noted ≡ true
      → Change m d.entry i x a (result_with_receipt x (receipt d))
  by_the_word may found =
      let parts = and_parts _ _ may in
      let same : x.control ≡ d.noted = noted_same x.control d.noted found in
      let published : x.published ≡ noted_state d = published_is d x (k.entries d.entry x at) ok
      (fresh_noted d x ok same) parts.0 ∙ ap noted_state (noting_same d x.control same) in
      told d refl published (still_is d (not-true (changes d) parts.1))

  by_the_stamp :
      (is_read d && not (changes d)) ≡ true
      → is_still x.control d ≡ true
      → Change m d.entry i x a (result_with_receipt x (receipt (with_noted d x.control)))
  unfolding is_still
  by_the_stamp may found =
      let parts = and_parts _ _ may in
      let stamp = and_parts _ _ found in
      let rest = and_parts _ _ stamp.0 in
      let level : x.control.stamp ≡ d.noted.stamp = eqb-true x.control.stamp d.noted.stamp stamp.1
      in
      let fresh : IsFresh d x = record { stamp = sym level; free = not-true x.control.shut rest.1 }
      in
      told (with_noted d x.control) refl
      (published_is d x (k.entries d.entry x at) ok fresh parts.0)
      (still_with_more d x.control ok.op level (ok.bits fresh) (not-true (changes d) parts.1))

  pub second_change :
      (is_read d && not (changes d)) ≡ true → Change m d.entry i x a (second_look x d)
  unfolding second_look
  second_change may =
      cond_both (is_noted x.control d.noted) (result_with_receipt x (receipt d))
      (if is_still x.control d then result_with_receipt x (receipt (with_noted d x.control))
      else result_without_receipt x Idle) (Change m d.entry i x a) (by_the_word may)
      (λ _.
      cond_both (is_still x.control d) (result_with_receipt x (receipt (with_noted d x.control)))
      (result_without_receipt x Idle) (Change m d.entry i x a) (by_the_stamp may) (λ _. idle))

  marks :
      (is_read d && changes d) ≡ true
      → is_noted x.control d.noted ≡ true
      → Change m d.entry i x a (result_with_receipt (marked_entry x (next_state d)) (receipt d))
  marks may found =
      let parts = and_parts _ _ may in
      let t : State = next_state d in
      let y : Entry = marked_entry x t in
      let entry : EntryOk x = k.entries d.entry x at in
      let same : x.control ≡ d.noted = noted_same x.control d.noted found in
      let fresh : IsFresh d x = fresh_noted d x ok same in
      let published : x.published ≡ noted_state d = published_is d x entry ok fresh parts.0 ∙ ap
      noted_state (noting_same d x.control same) in
      let by_words : x.published ≡ state_of x.control x.dword0 x.dword1 = entry.free fresh.free in
      let further : OnlyRaisesBits x.published t = subst (λ s. OnlyRaisesBits s t) (sym published)
      (next_further d ok.op) in
      let valid : x.control.valid ≡ true = ap (λ (s : State). s.valid) (sym by_words ∙ published) ∙
      change_is_valid d ok.op parts.1 in
      let same_valid : x.control.valid ≡ t.valid = ap (λ (s : State). s.valid) (sym by_words) ∙ sym
      further.valid in
      let same_stamp : x.control.stamp ≡ t.stamp = ap (λ (s : State). s.stamp) (sym by_words) ∙ sym
      further.stamp in
      let first : x.dword0 ≡ t.dword0 = ap (λ v. if v then x.dword0 else 0) (sym valid) ∙ ap
      (λ (s : State). s.dword0) (sym by_words) ∙ sym further.dword0 in
      let second : without_bits x.dword1 ≡ t.dword1 = ap
      (λ v. if v then without_bits x.dword1 else 0) (sym valid) ∙ ap (λ (s : State). s.dword1)
      (sym by_words) ∙ sym further.dword1 in
      let referenced : x.control.referenced ≡ x.published.referenced = ap
      (λ v. if v then x.control.referenced else false) (sym valid) ∙ ap
      (λ (s : State). s.referenced) (sym by_words) in
      let changed : x.control.changed ≡ x.published.changed = ap
      (λ v. if v then x.control.changed else false) (sym valid) ∙ ap (λ (s : State). s.changed)
      (sym by_words) in
      let more : HasMoreBits x.control y.control = record {
        valid = refl;
        referenced = λ b. further.referenced (sym referenced ∙ b);
        changed = λ b. further.changed (sym changed ∙ b);
      } in
      record {
        here = at;
        me = me;
        live = live;
        entry = record {
          free =
              λ _.
              state_is t y.control x.dword0 x.dword1 (next_canonical d) same_valid same_stamp
              (λ _. (refl, refl))
              (λ _. (first, second ∙ sym (cleared_same t.dword1 (next_canonical d).apart)));
          shut = entry.shut;
          low = entry.low;
        };
        mine = λ e' on. absurd on;
        ok = tt;
        keeps = λ j b other is on ok'. marked_phase d.entry b.phase x t fresh.free more ok';
        sole = λ h. absurd h;
        locks = λ l. inr (l, free d.entry);
        before = λ e' h. absurd (free e' h);
        tells = (receipt_entry d, receipt_before d ∙ sym published, receipt_after d);
      }

  pub mark_change :
      (is_read d && changes d) ≡ true
      → Change m d.entry i x a
      (if is_noted x.control d.noted then result_with_receipt (marked_entry x (next_state d))
      (receipt d) else result_without_receipt x Idle)
  mark_change may =
      cond_both (is_noted x.control d.noted)
      (result_with_receipt (marked_entry x (next_state d)) (receipt d))
      (result_without_receipt x Idle) (Change m d.entry i x a) (marks may) (λ _. idle)
