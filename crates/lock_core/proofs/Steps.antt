-- The steps of a holder: lock, data loads, shut, data stores, settle and release.
use Rattle.std.specs.Prelude.{slice_get, if◌then◌else◌}
use Rattle.std.proofs.Common.{◌≡◌, ◌≢◌, ℕ, ◌+◌, ◌<◌, ◌^◌, ◌&&◌, not, Bool, true, false, List, inl, inr, refl, sym, ap, ◌∙◌, subst, arith, Some, None}
use Rattle.std.proofs.lemmas.Bool.{and_parts, cond_both, false≢true, eqb-true, not-true, false_from_ne_true}
use Rattle.entry_model.specs.State.{State}
use Rattle.entry_model.specs.declared.operation.Op.{Op}
use Rattle.entry_model.specs.declared.receipt.Receipt.{Receipt}
use Rattle.entry_model.specs.Receipt.{is_access, after_of}
use Rattle.entry_model.proofs.OperationLaws.{stamp_fits}
use Rattle.lock_core.specs.declared.control.Control.{Control}
use Rattle.lock_core.specs.declared.doing.Doing.{Doing}
use Rattle.lock_core.specs.declared.entry.Entry.{Entry}
use Rattle.lock_core.specs.declared.phase.Phase.{Phase}
use Rattle.lock_core.specs.declared.phase.Phase.TheVariants.{Idle, Held, HeldShut, Looked}
use Rattle.lock_core.specs.Words.{without_bits, settled_word, is_read, noted_state, next_state, changes, receipt, is_stored}
use Rattle.lock_core.specs.Machine.{Actor, Machine, HoldsEntry}
use Rattle.lock_core.specs.Steps.{result_without_receipt, result_with_receipt, new_doing, with_noted, with_loaded, with_stored, locked_entry, shut_entry, settled_entry}
use Rattle.lock_core.proofs.Kept.{IsOn, EntryOk, HeldOk, ShutOk, IsFresh, HasMoreBits, LookedOk, PhaseOk, Kept}
use Rattle.lock_core.proofs.Moves.{Change, lock_is_on, phase_stays}
use Rattle.lock_core.proofs.Lists.{some_same, none_some}
use Rattle.lock_core.proofs.Noted.{or_has, same_words, state_is, known_words_of, still_is, next_canonical, raised, changes_alike}

-- ---- what others have looked at
-- The entry is shut: nobody reads its words.
pub looks_shut :
    (d : Doing) (x y : Entry)
    → y.control.stamp ≡ x.control.stamp
    → y.control.shut ≡ true
    → LookedOk d x
    → LookedOk d y
looks_shut d x y stamp shut ok = record {
  older = (let o = ok.older in omega arith);
  op = ok.op;
  free = ok.free;
  first = λ f. absurd (false≢true (sym f.free ∙ shut));
  second = λ f. absurd (false≢true (sym f.free ∙ shut));
  seen = λ f. absurd (false≢true (sym f.free ∙ shut));
  bits = λ f. absurd (false≢true (sym f.free ∙ shut));
}

-- The entry has a higher stamp.
pub looks_newer :
    (d : Doing) (x y : Entry) → y.control.stamp ≡ x.control.stamp + 1 → LookedOk d x → LookedOk d y
looks_newer d x y stamp ok = record {
  older = (let o = ok.older in omega arith);
  op = ok.op;
  free = ok.free;
  first = λ f. (let o = ok.older in let s = f.stamp in absurd (omega arith));
  second = λ f. (let o = ok.older in let s = f.stamp in absurd (omega arith));
  seen = λ f. (let o = ok.older in let s = f.stamp in absurd (omega arith));
  bits = λ f. (let o = ok.older in let s = f.stamp in absurd (omega arith));
}

-- The entry has the same words, perhaps with further bits.
pub looks_on :
    (d : Doing) (x y : Entry)
    → y.control.stamp ≡ x.control.stamp
    → y.control.shut ≡ x.control.shut
    → y.dword0 ≡ x.dword0
    → y.dword1 ≡ x.dword1
    → HasMoreBits x.control y.control
    → LookedOk d x
    → LookedOk d y
looks_on d x y stamp shut first second more ok =
    let was : IsFresh d y → IsFresh d x = λ f. record {
      stamp = f.stamp ∙ stamp;
      free = sym shut ∙ f.free;
    } in
    record {
      older = (let o = ok.older in omega arith);
      op = ok.op;
      free = ok.free;
      first = λ f n e. first ∙ ok.first (was f) n e;
      second = λ f n e. second ∙ ok.second (was f) n e;
      seen = λ f w e. (let p = ok.seen (was f) w e in (first ∙ p.0, ap without_bits second ∙ p.1));
      bits =
          λ f.
          (let b = ok.bits (was f) in
          record {
            valid = b.valid ∙ more.valid;
            referenced = λ e. more.referenced (b.referenced e);
            changed = λ e. more.changed (b.changed e);
          });
    }

-- ---- what a holder knows
holder_locked :
    (e : ℕ) (p : Phase) (x : Entry) → HoldsEntry e p → PhaseOk p x → x.control.locked ≡ true
holder_locked e Idle x h ok = absurd h
holder_locked e (Held d) x h ok = ok.locked
holder_locked e (HeldShut d) x h ok = ok.locked
holder_locked e (Looked d) x h ok = absurd h

-- What it noted and loaded is the state that the entry counts with.
noted_is :
    (d : Doing) (x : Entry)
    → EntryOk x
    → HeldOk d x
    → is_read d ≡ true
    → x.published ≡ noted_state (with_noted d x.control)
unfolding noted_state
noted_is d x entry ok read =
    entry.free ok.free
    ∙ same_words x.control x.dword0 x.dword1 _ _
    (λ v.
    known_words_of d.first d.second d.seen x.dword0 x.dword1
    (or_has d.noted.valid _ read (ok.valid ∙ v)) ok.first ok.second
    (λ w e. absurd (none_some w (sym ok.seen ∙ e))))

pub loaded_entry :
    (second : Bool) (x : Entry) (d : Doing) → (with_loaded second x d).entry ≡ d.entry
loaded_entry true x d = refl
loaded_entry false x d = refl

held_loaded :
    (second : Bool) (x : Entry) (d : Doing) → HeldOk d x → HeldOk (with_loaded second x d) x
held_loaded true x d ok =
    record {
      locked = ok.locked;
      free = ok.free;
      valid = ok.valid;
      stamp = ok.stamp;
      first = ok.first;
      second = λ n e. some_same x.dword1 n e;
      seen = ok.seen;
      op = ok.op;
    }
held_loaded false x d ok =
    record {
      locked = ok.locked;
      free = ok.free;
      valid = ok.valid;
      stamp = ok.stamp;
      first = λ n e. some_same x.dword0 n e;
      second = ok.second;
      seen = ok.seen;
      op = ok.op;
    }

pub stored_control :
    (second : Bool) (s : State) (x : Entry) → (with_stored second s x).control ≡ x.control
stored_control true s x = refl
stored_control false s x = refl

pub stored_published :
    (second : Bool) (s : State) (x : Entry) → (with_stored second s x).published ≡ x.published
stored_published true s x = refl
stored_published false s x = refl

-- Words that are stored are those of the state, where it is valid.
stored_words :
    (x : Entry) (s : State)
    → is_stored x s ≡ true
    → s.valid ≡ true
    → (x.dword0 ≡ s.dword0) × (without_bits x.dword1 ≡ without_bits s.dword1)
unfolding is_stored
stored_words x s h valid =
    let p = and_parts _ _ (or_has s.valid _ h valid) in
    (eqb-true x.dword0 s.dword0 p.0, ap without_bits (eqb-true x.dword1 s.dword1 p.1))

pub receipt_entry : (d : Doing) → (receipt d).entry ≡ d.entry
unfolding receipt
receipt_entry d = refl

pub receipt_before : (d : Doing) → (receipt d).before ≡ noted_state d
unfolding receipt
receipt_before d = refl

pub receipt_after : (d : Doing) → after_of (receipt d) ≡ next_state d
unfolding receipt next_state
receipt_after d = refl

next_low : (d : Doing) → d.noted.stamp < 2 ^ 32 → (next_state d).stamp < 2 ^ 32
unfolding next_state noted_state
next_low d low = stamp_fits (noted_state d) d.op low

module _ (opening : List State) (m : Machine) (log : List Receipt) (k : Kept opening m log) (i : ℕ)
    (a : Actor) (me : slice_get m.actors i ≡ Some a) (live : a.live ≡ true) where
  -- Nobody else holds what a holder holds.
  alone :
      (e : ℕ)
      → HoldsEntry e a.phase
      → (j : ℕ) (b : Actor)
      → j ≢ i
      → slice_get m.actors j ≡ Some b
      → ¬ HoldsEntry e b.phase
  alone e mine j b other is theirs = other (k.one e j i b a is me theirs mine)

  -- The actor goes on, and the entry stays.
  pub only_phase :
      (e : ℕ) (x : Entry) (p : Phase)
      → slice_get m.entries e ≡ Some x
      → ((e' : ℕ) → ¬ HoldsEntry e' a.phase)
      → ((e' : ℕ) → IsOn e' p → e' ≡ e)
      → ¬ HoldsEntry e p
      → PhaseOk p x
      → Change m e i x a (result_without_receipt x p)
  only_phase e x p at free mine none ok = record {
    here = at;
    me = me;
    live = live;
    entry = k.entries e x at;
    mine = mine;
    ok = ok;
    keeps = λ j b other is on ok'. ok';
    sole = λ h. absurd (none h);
    locks = λ l. inr (l, free e);
    before = λ e' h. absurd (free e' h);
    tells = refl;
  }

  idle_free : a.phase ≡ Idle → (e' : ℕ) → ¬ HoldsEntry e' a.phase
  idle_free idle e' h = subst (HoldsEntry e') idle h

  lock_free :
      (e : ℕ) (x : Entry) (op : Op)
      → slice_get m.entries e ≡ Some x
      → a.phase ≡ Idle
      → is_access op ≡ false
      → x.control.locked ≡ false
      → Change m e i x a
      (result_without_receipt (locked_entry x true) (Held (new_doing e op x.control None)))
  lock_free e x op at idle other unlocked =
      let ok : EntryOk x = k.entries e x at in
      let y : Entry = locked_entry x true in
      let unshut : x.control.shut ≡ false = false_from_ne_true x.control.shut
      (λ h. false≢true (sym unlocked ∙ ok.shut h)) in
      let nobody' :
      (j : ℕ) (b : Actor) → slice_get m.actors j ≡ Some b → ¬ HoldsEntry e b.phase = λ j
      b is theirs. absurd
      (false≢true
      (sym unlocked
      ∙ holder_locked e b.phase x theirs
      (k.actors j e b x is (lock_is_on e b.phase theirs) at))) in
      record {
        here = at;
        me = me;
        live = live;
        entry = record { free = ok.free; shut = λ _. refl; low = ok.low };
        mine = λ e' on. sym on;
        ok =
            record {
              locked = refl;
              free = unshut;
              valid = refl;
              stamp = refl;
              first = λ n h. absurd (none_some n h);
              second = λ n h. absurd (none_some n h);
              seen = refl;
              op = other;
            };
        keeps =
            λ j b other is on ok'.
            phase_stays e b.phase x y on ok' (nobody' j b is)
            (λ d on l.
            looks_on d x y refl refl refl refl
            (record { valid = refl; referenced = λ e. e; changed = λ e. e }) l);
        sole = λ _ j b other is. nobody' j b is;
        locks = λ _. inl refl;
        before = λ e' h. absurd (idle_free idle e' h);
        tells = refl;
      }

  pub lock_change :
      (e : ℕ) (x : Entry) (op : Op)
      → slice_get m.entries e ≡ Some x
      → a.phase ≡ Idle
      → is_access op ≡ false
      → Change m e i x a
      (if x.control.locked then result_without_receipt x Idle else result_without_receipt
      (locked_entry x true) (Held (new_doing e op x.control None)))
  lock_change e x op at idle other =
      cond_both x.control.locked (result_without_receipt x Idle)
      (result_without_receipt (locked_entry x true) (Held (new_doing e op x.control None)))
      (Change m e i x a)
      (λ _. only_phase e x Idle at (idle_free idle) (λ e' on. absurd on) (λ h. h) tt)
      (lock_free e x op at idle other)

  -- ---- the holder goes on
  module _ (d : Doing) (x : Entry) (at : slice_get m.entries d.entry ≡ Some x)
      (is : a.phase ≡ Held d) where
    has_lock : HoldsEntry d.entry a.phase
    has_lock = subst (HoldsEntry d.entry) (sym is) refl

    held_ok : HeldOk d x
    held_ok =
        subst (λ p. PhaseOk p x) is
        (k.actors i d.entry a x me (lock_is_on d.entry a.phase has_lock) at)

    only_this : (e' : ℕ) → HoldsEntry e' a.phase → e' ≡ d.entry
    only_this e' h = sym (subst (HoldsEntry e') is h)

    pub load_change :
        (second : Bool)
        → Change m d.entry i x a (result_without_receipt x (Held (with_loaded second x d)))
    load_change second = record {
      here = at;
      me = me;
      live = live;
      entry = k.entries d.entry x at;
      mine = λ e' on. sym on ∙ loaded_entry second x d;
      ok = held_loaded second x d held_ok;
      keeps = λ j b other is on ok'. ok';
      sole = λ _. alone d.entry has_lock;
      locks = λ _. inl (loaded_entry second x d);
      before = only_this;
      tells = refl;
    }

    pub shut_change :
        (is_read d && changes d) ≡ true
        → Change m d.entry i x a
        (result_without_receipt (shut_entry x) (HeldShut (with_noted d x.control)))
    shut_change may =
        let y : Entry = shut_entry x in
        let parts = and_parts _ _ may in
        let ok : HeldOk d x = held_ok in record {
          here = at;
          me = me;
          live = live;
          entry =
              record {
                free = λ h. absurd (false≢true (sym h));
                shut = λ _. ok.locked;
                low = (k.entries d.entry x at).low;
              };
          mine = λ e' on. sym on;
          ok =
              record {
                locked = ok.locked;
                shut = refl;
                stamp = refl;
                published = noted_is d x (k.entries d.entry x at) ok parts.0;
                changes = changes_alike d x.control ok.op (sym ok.valid) (sym ok.stamp) ∙ parts.1;
                op = ok.op;
              };
          keeps =
              λ j b other is on ok'.
              phase_stays d.entry b.phase x y on ok' (alone d.entry has_lock j b other is)
              (λ d' on l. looks_shut d' x y refl refl l);
          sole = λ _. alone d.entry has_lock;
          locks = λ _. inl refl;
          before = only_this;
          tells = refl;
        }

    pub release_change :
        (is_read d && not (changes d)) ≡ true
        → Change m d.entry i x a
        (result_with_receipt (locked_entry x false) (receipt (with_noted d x.control)))
    release_change may =
        let y : Entry = locked_entry x false in
        let d' : Doing = with_noted d x.control in
        let parts = and_parts _ _ may in
        let ok : HeldOk d x = held_ok in
        let published : x.published ≡ noted_state d' = noted_is d x (k.entries d.entry x at) ok
        parts.0 in
        let still : next_state d' ≡ noted_state d' = still_is d'
        (changes_alike d x.control ok.op (sym ok.valid) (sym ok.stamp)
        ∙ not-true (changes d) parts.1) in
        record {
          here = at;
          me = me;
          live = live;
          entry =
              record {
                free = (k.entries d.entry x at).free;
                shut = λ h. absurd (false≢true (sym ok.free ∙ h));
                low = (k.entries d.entry x at).low;
              };
          mine = λ e' on. absurd on;
          ok = tt;
          keeps =
              λ j b other is on ok'.
              phase_stays d.entry b.phase x y on ok' (alone d.entry has_lock j b other is)
              (λ d'' on l.
              looks_on d'' x y refl refl refl refl
              (record { valid = refl; referenced = λ e. e; changed = λ e. e }) l);
          sole = λ h. absurd h;
          locks = λ h. absurd (false≢true h);
          before = only_this;
          tells = (
            receipt_entry d',
            receipt_before d' ∙ sym published,
            receipt_after d' ∙ still ∙ sym published,
          );
        }

  -- ---- while the entry is shut
  module _ (d : Doing) (x : Entry) (at : slice_get m.entries d.entry ≡ Some x)
      (is : a.phase ≡ HeldShut d) where
    has_shut : HoldsEntry d.entry a.phase
    has_shut = subst (HoldsEntry d.entry) (sym is) refl

    shut_ok : ShutOk d x
    shut_ok =
        subst (λ p. PhaseOk p x) is
        (k.actors i d.entry a x me (lock_is_on d.entry a.phase has_shut) at)

    only_that : (e' : ℕ) → HoldsEntry e' a.phase → e' ≡ d.entry
    only_that e' h = sym (subst (HoldsEntry e') is h)

    pub store_change :
        (second : Bool)
        → Change m d.entry i x a
        (result_without_receipt (with_stored second (next_state d) x) (HeldShut d))
    store_change second =
        let y : Entry = with_stored second (next_state d) x in
        let ok : ShutOk d x = shut_ok in
        let control : y.control ≡ x.control = stored_control second (next_state d) x in
        let locked : y.control.locked ≡ true = ap (λ (c : Control). c.locked) control ∙ ok.locked in
        let shut : y.control.shut ≡ true = ap (λ (c : Control). c.shut) control ∙ ok.shut in
        let stamp : y.control.stamp ≡ x.control.stamp = ap (λ (c : Control). c.stamp) control in
        let published : y.published ≡ x.published = stored_published second (next_state d) x in
        record {
          here = at;
          me = me;
          live = live;
          entry =
              record {
                free = λ h. absurd (false≢true (sym h ∙ shut));
                shut = λ _. locked;
                low = subst (λ n. n < 2 ^ 32) (sym stamp) (k.entries d.entry x at).low;
              };
          mine = λ e' on. sym on;
          ok =
              record {
                locked = locked;
                shut = shut;
                stamp = ok.stamp ∙ sym stamp;
                published = published ∙ ok.published;
                changes = ok.changes;
                op = ok.op;
              };
          keeps =
              λ j b other is on ok'.
              phase_stays d.entry b.phase x y on ok' (alone d.entry has_shut j b other is)
              (λ d' on l. looks_shut d' x y stamp shut l);
          sole = λ _. alone d.entry has_shut;
          locks = λ _. inl refl;
          before = only_that;
          tells = published;
        }

    pub settle_change :
        is_stored x (next_state d) ≡ true
        → Change m d.entry i x a (result_with_receipt (settled_entry x (next_state d)) (receipt d))
    settle_change may =
        let t : State = next_state d in
        let y : Entry = settled_entry x t in
        let ok : ShutOk d x = shut_ok in
        let up : t.stamp ≡ d.noted.stamp + 1 = raised d ok.op ok.changes in
        let stamp : t.stamp ≡ x.control.stamp + 1 = up ∙ ap (λ n. n + 1) ok.stamp in record {
          here = at;
          me = me;
          live = live;
          entry = record {
            free =
                λ _.
                state_is t (settled_word t) x.dword0 x.dword1 (next_canonical d) refl refl
                (λ _. (refl, refl)) (stored_words x t may);
            shut = λ h. absurd (false≢true h);
            low = next_low d (subst (λ n. n < 2 ^ 32) (sym ok.stamp) (k.entries d.entry x at).low);
          };
          mine = λ e' on. absurd on;
          ok = tt;
          keeps =
              λ j b other is on ok'.
              phase_stays d.entry b.phase x y on ok' (alone d.entry has_shut j b other is)
              (λ d' on l. looks_newer d' x y stamp l);
          sole = λ h. absurd h;
          locks = λ h. absurd (false≢true h);
          before = only_that;
          tells = (receipt_entry d, receipt_before d ∙ sym ok.published, receipt_after d);
        }
