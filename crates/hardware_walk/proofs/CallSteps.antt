-- The steps of a caller keep what is kept.
use Rattle.std.specs.Prelude.{slice_get, if◌then◌else◌}
use Rattle.std.proofs.Common.{◌≡◌, ◌⊎◌, ℕ, ◌&&◌, ◌||◌, not, Bool, true, false, map, set, inl, inr, refl, sym, ap, ◌∙◌, subst, Option, Some, None}
use Rattle.std.proofs.lemmas.Bool.{and_parts, cond_both, cases_Bool, false≢true}
use Rattle.entry_model.specs.State.{State, IsCanonicalState, OnlyRaisesBits}
use Rattle.entry_model.specs.History.{state_eq}
use Rattle.entry_model.specs.Receipt.{is_access, is_at}
use Rattle.entry_model.specs.Reply.{reply_of}
use Rattle.entry_model.specs.declared.operation.Op.{Op}
use Rattle.entry_model.specs.declared.receipt.Receipt.{Receipt}
use Rattle.entry_model.proofs.Sorted.{state_same, state_self}
use Rattle.entry_model.proofs.Follows.{no_further}
use Rattle.entry_model.proofs.OperationLaws.{reply_canonical, access_undone}
use Rattle.hardware_walk.specs.Words.{Entry, seen_state, touched_entry}
use Rattle.hardware_walk.specs.Machine.{Phase, Idle, Held, Leaving, Ready, Invalidated, Flushing, Flushed, Known, is_idle, is_on, made_old, HardwareAccess, Machine}
use Rattle.hardware_walk.specs.Steps.{protocol, CallStep, LockEntry, LoadDoubleword1, UnlockEntry, SetBitsAtomically, ClearValid, BeginTlbie, EndTlbie, ReloadDoubleword1, StoreDoubleword1, StoreStamp, StoreDoubleword0, CallResult, goes_to, begins_at, answers_at, next_of, receipt_by, changes, with_seen_bits, pair_here, loaded, may_settle, word_stored, settled, call_result, is_quiet, places_after, logged, after_call}
use Rattle.hardware_walk.specs.Laws.{IsListed, IsTranslation}
use Rattle.hardware_walk.proofs.Answers.{same_answer, at_touches}
use Rattle.hardware_walk.proofs.Touched.{same_touched, place_touched}
use Rattle.hardware_walk.proofs.Kept.{Memory, Same, Inside, NoneOn, AllOld, KnownOk, PhaseOk, Kept}
use Rattle.hardware_walk.proofs.Frame.{Tells, alone, call_kept, same_kept, all_made_old, begun_listed, begun_hard, owes_on}
use Rattle.hardware_walk.proofs.CallWords.{seen_is, memory_along, place_along, same_along, off_ok, place_valid, quiet_none}

-- ---- the machine after a step
abbrev pub put_call : Machine → ℕ → CallResult → Machine
put_call m i t = record {
  entry = t.entry;
  callers = set m.callers i t.phase;
  places = places_after t.begins m.places;
  log = logged m.log t.made;
  used = m.used;
}

-- An access that changes an entry is allowed.
access_at :
    (op : Op) (s : State)
    → is_access op ≡ true
    → state_eq (next_of op s) s ≡ false
    → is_at (reply_of s op).0 ≡ true
access_at op s access other = by (cases_Bool (is_at (reply_of s op).0)) where
  by :
      (is_at (reply_of s op).0 ≡ true) ⊎ (is_at (reply_of s op).0 ≡ false)
      → is_at (reply_of s op).0 ≡ true
  by (inl h) = h
  by (inr h) =
      absurd
      (false≢true
      (sym other ∙ ap (λ z. state_eq z s) (access_undone s op access h) ∙ state_self s))

must_change : (b : Bool) → not b ≡ true → b ≡ false
must_change true h = absurd (false≢true h)
must_change false h = refl

and_not : (a : Bool) → (a && true) ≡ false → a ≡ false
and_not true h = h
and_not false h = refl

not_changed : (b : Bool) → not b ≡ false → b ≡ true
not_changed true h = refl
not_changed false h = sym h

must_store : (stored v : Bool) → (stored || not (v && true)) ≡ true → v ≡ true → stored ≡ true
must_store true v h e = refl
must_store false true h e = absurd (false≢true h)
must_store false false h e = absurd (false≢true e)

module _ (number : ℕ) (opening : State) (m : Machine) (k : Kept number opening m) (i : ℕ) where
  abbrev x : Entry
  x = m.entry

  abbrev Goes : CallResult → Type 0
  Goes t = Kept number opening (put_call m i t)

  lock_free : (op : Op) → slice_get m.callers i ≡ Some Idle → x.locked ≡ false
      → Goes (goes_to (record x { locked = true }) (Held op))
  lock_free op me free =
      call_kept number opening m k i Idle me (goes_to (record x { locked = true })
      (Held op)) m.places
      (record {
        others = λ j q other is. k.idle free j q is;
        canonical = k.canonical;
        index = refl;
        tells = refl;
        open' = λ v. same_along x true (k.open' v);
        free = λ h. absurd (false≢true (sym h));
        phase = same_along x true (k.free free);
        hard =
            λ l w at. place_along w x true x.valid x.dword0 x.stamp (k.hard l w at);
        uses = λ u h. h;
      })

  module _ (p : Phase) (me : slice_get m.callers i ≡ Some p) (busy : is_idle p ≡ false) where
    is_held : {A : Type 0} → x.locked ≡ false → A
    is_held h = absurd (false≢true (sym busy ∙ k.idle h i p me))

    seen_bits :
        (s : State)
        → OnlyRaisesBits s x.published
        → Memory x
        → with_seen_bits s x ≡ x.published
    seen_bits s read memory = λ j.
        record {
          valid = sym read.valid j;
          dword0 = sym read.dword0 j;
          dword1 = sym read.dword1 j;
          referenced = memory.referenced j;
          changed = memory.changed j;
          stamp = sym read.stamp j;
        }

    -- The entry stays.
    onward :
        (p' : Phase) (made : Option Receipt)
        → Tells x.index x.published made x.published
        → PhaseOk p' x m.places
        → Goes (record { entry = x; phase = p'; made = made; begins = false })
    onward p' made tells ok =
        call_kept number opening m k i p me
        (record { entry = x; phase = p'; made = made; begins = false }) m.places
        (record {
          others = alone number opening m k i p me busy;
          canonical = k.canonical;
          index = refl;
          tells = tells;
          open' = k.open';
          free = λ h. is_held h;
          phase = ok;
          hard = k.hard;
          uses = λ u h. h;
        })

    release : Same x → Goes (goes_to (record x { locked = false }) Idle)
    release same =
        call_kept number opening m k i p me (goes_to (record x { locked = false }) Idle) m.places
        (record {
          others = alone number opening m k i p me busy;
          canonical = k.canonical;
          index = refl;
          tells = refl;
          open' = λ v. same_along x false same;
          free = λ h. (same_along x false same, refl);
          phase = tt;
          hard = λ l w at. place_along w x false x.valid x.dword0 x.stamp (k.hard l w at);
          uses = λ u h. h;
        })

    -- The hypervisor's own walk: R and C are set, and the entry counts with them.
    touch :
        (op : Op) (s : State)
        → PhaseOk (Ready op s) x m.places
        → is_access op ≡ true
        → Goes
        (answers_at (touched_entry x (pair_here x) op) Leaving (receipt_by x op
        (with_seen_bits s x)))
    touch op s ok access =
        let valid : x.published.valid ≡ true = ok.1.valid ∙ ok.2 in
        let memory : Memory x = ok.0.memory valid in
        let before : with_seen_bits s x ≡ x.published = seen_bits s ok.1 memory in
        let at : is_at (reply_of x.published op).0 ≡ true = same_answer s x.published op ok.1.valid
        ok.1.dword0 ok.1.dword1 access (ok.3 access) in
        let has : IsTranslation (pair_here x) x.published = record {
          valid = valid;
          dword0 = ok.0.dword0 valid;
          dword1 = memory.dword1;
        } in
        let y : Entry = touched_entry x (pair_here x) op in
        let same : Same y = same_touched x (pair_here x) op has at ok.0 in
        call_kept number opening m k i p me
        (answers_at y Leaving (receipt_by x op (with_seen_bits s x))) m.places
        (record {
          others = alone number opening m k i p me busy;
          canonical = reply_canonical x.published op k.canonical;
          index = refl;
          tells = (before, ap (next_of op) before, refl);
          open' = λ _. same;
          free = λ h. is_held h;
          phase = same;
          hard = λ l w at'. place_touched x (pair_here x) op has at w (k.hard l w at');
          uses =
              λ u h.
              subst (λ n. IsListed m.places m.log n u)
              (sym (ap (λ (z : State). z.stamp) (at_touches x.published op at))) h;
        })

    clear :
        (op : Op) (s : State)
        → PhaseOk (Ready op s) x m.places
        → Goes (goes_to (record x { valid = false }) (Invalidated op s))
    clear op s ok =
        let valid : x.published.valid ≡ true = ok.1.valid ∙ ok.2 in
        call_kept number opening m k i p me (goes_to (record x { valid = false })
        (Invalidated op s)) m.places
        (record {
          others = alone number opening m k i p me busy;
          canonical = k.canonical;
          index = refl;
          tells = refl;
          open' = λ v. absurd (false≢true v);
          free = λ h. is_held h;
          phase = record {
            shut = refl;
            valid = valid;
            memory = memory_along x x.locked false x.dword0 x.stamp (ok.0.memory valid);
            read = ok.1;
          };
          hard = λ l w at. place_along w x x.locked false x.dword0 x.stamp (k.hard l w at);
          uses = λ u h. h;
        })

    begin' : (op : Op) (s : State) → Inside s x → Goes (begins_at x (Flushing op s))
    begin' op s ok =
        call_kept number opening m k i p me (begins_at x (Flushing op s)) (map made_old m.places)
        (record {
          others = alone number opening m k i p me busy;
          canonical = k.canonical;
          index = refl;
          tells = refl;
          open' = k.open';
          free = λ h. is_held h;
          phase = (ok, all_made_old m.places);
          hard = begun_hard m.places x k.hard;
          uses = λ u h. begun_listed m.places m.log x.published.stamp u h;
        })

    -- Where the entry is empty, hardware has nothing of it.
    none_of_empty : Same x → x.valid ≡ false → NoneOn m.places
    none_of_empty same empty l w at = by (cases_Bool (is_on w)) where
      by : (is_on w ≡ true) ⊎ (is_on w ≡ false) → is_on w ≡ false
      by (inr h) = h
      by (inl h) =
          absurd
          (false≢true (sym empty ∙ same.valid ∙ place_valid w x (k.hard l w at) h))

    load : (op : Op) → Same x → Goes (loaded protocol x op (seen_state x))
    unfolding loaded
    load op same =
        let s : State = seen_state x in
        let is : x.published ≡ s = seen_is x k.canonical same in
        cond_both (changes op s)
        (goes_to x (if s.valid && true then Ready op s else Known op s false false))
        (answers_at x Leaving (receipt_by x op s)) Goes
        (λ c.
        onward (if s.valid && true then Ready op s else Known op s false false) None refl
        (cond_both (s.valid && true) (Ready op s) (Known op s false false)
        (λ q. PhaseOk q x m.places)
        (λ v. (
          same,
          subst (OnlyRaisesBits s) (sym is) (no_further s),
          (and_parts _ _ v).0,
          λ access. access_at op s access (must_change (state_eq (next_of op s) s) c),
        ))
        (λ v.
        record {
          shut = and_not x.valid v;
          before = sym is;
          none = none_of_empty same (and_not x.valid v);
          word = λ e. absurd (false≢true e);
          stamp = λ e. absurd (false≢true e);
        })))
        (λ c.
        onward Leaving (Some (receipt_by x op s))
        (sym is, state_same (next_of op s) s (not_changed _ c) ∙ sym is, refl) same)

    end' :
        (op : Op) (s : State)
        → Inside s x
        → AllOld m.places
        → Goes
        (goes_to x
        (if is_quiet protocol m.places || false then Flushed op s else Flushing op s))
    end' op s ok old =
        onward (if is_quiet protocol m.places || false then Flushed op s
        else Flushing op s) None refl
        (cond_both (is_quiet protocol m.places || false) (Flushed op s) (Flushing op s)
        (λ q. PhaseOk q x m.places)
        (λ q. (ok, quiet_none m.places old (or_false q)))
        (λ _. (ok, old))) where
          or_false : {a : Bool} → (a || false) ≡ true → a ≡ true
          or_false {a} h = by a h where
            by : (a : Bool) → (a || false) ≡ true → a ≡ true
            by true h = refl
            by false h = h

    reload :
        (op : Op) (s : State)
        → Inside s x
        → NoneOn m.places
        → Goes (goes_to x (Known op (with_seen_bits s x) false false))
    reload op s ok none =
        onward (Known op (with_seen_bits s x) false false) None refl
        (record {
          shut = ok.shut;
          before = seen_bits s ok.read ok.memory;
          none = none;
          word = λ e. absurd (false≢true e);
          stamp = λ e. absurd (false≢true e);
        })

    store_word :
        (op : Op) (s : State) (stored stamped : Bool)
        → KnownOk op s stored stamped x m.places
        → Goes (goes_to (word_stored x (next_of op s)) (Known op s true stamped))
    store_word op s stored stamped ok =
        call_kept number opening m k i p me
        (goes_to (word_stored x (next_of op s)) (Known op s true stamped)) m.places
        (record {
          others = alone number opening m k i p me busy;
          canonical = k.canonical;
          index = refl;
          tells = refl;
          open' = λ v. absurd (false≢true (sym ok.shut ∙ v));
          free = λ h. is_held h;
          phase = record {
            shut = ok.shut;
            before = ok.before;
            none = ok.none;
            word = λ _. record { dword1 = refl; referenced = refl; changed = refl };
            stamp = ok.stamp;
          };
          hard = λ l w at. off_ok w _ (ok.none l w at);
          uses = λ u h. h;
        })

    store_stamp :
        (op : Op) (s : State) (stored stamped : Bool)
        → KnownOk op s stored stamped x m.places
        → Goes (goes_to (record x { stamp = (next_of op s).stamp }) (Known op s stored true))
    store_stamp op s stored stamped ok =
        call_kept number opening m k i p me
        (goes_to (record x { stamp = (next_of op s).stamp }) (Known op s stored true)) m.places
        (record {
          others = alone number opening m k i p me busy;
          canonical = k.canonical;
          index = refl;
          tells = refl;
          open' = λ v. absurd (false≢true (sym ok.shut ∙ v));
          free = λ h. is_held h;
          phase = record {
            shut = ok.shut;
            before = ok.before;
            none = ok.none;
            word =
                λ e.
                (let w = ok.word e in
                record { dword1 = w.dword1; referenced = w.referenced; changed = w.changed });
            stamp = λ _. refl;
          };
          hard = λ l w at. off_ok w _ (ok.none l w at);
          uses = λ u h. h;
        })

    settled_same :
        (op : Op) (s : State) (stored stamped : Bool)
        → KnownOk op s stored stamped x m.places
        → may_settle protocol (next_of op s) stored stamped ≡ true
        → Same (settled x (next_of op s))
    settled_same op s stored stamped ok may =
        let parts = and_parts (stored || not ((next_of op s).valid && true)) stamped may in
        record {
          valid = refl;
          dword0 = λ _. refl;
          memory =
              λ v.
              (let w = ok.word (must_store stored (next_of op s).valid parts.0 v) in
              record { dword1 = w.dword1; referenced = w.referenced; changed = w.changed });
          stamp = ok.stamp parts.1;
        }

    no_owner :
        (n : ℕ) (u : HardwareAccess)
        → NoneOn m.places
        → IsListed m.places m.log x.published.stamp u
        → IsListed m.places m.log n u
    no_owner n u none (inl h) =
        absurd (false≢true (sym (none h.0 h.1 h.2) ∙ owes_on u.op h.1 h.3))
    no_owner n u none (inr h) = inr h

    settle :
        (op : Op) (s : State) (stored stamped : Bool)
        → KnownOk op s stored stamped x m.places
        → Goes
        (if may_settle protocol (next_of op s) stored stamped
        then answers_at (settled x (next_of op s)) Idle (receipt_by x op s)
        else goes_to x (Known op s stored stamped))
    settle op s stored stamped ok =
        cond_both (may_settle protocol (next_of op s) stored stamped)
        (answers_at (settled x (next_of op s)) Idle (receipt_by x op s))
        (goes_to x (Known op s stored stamped)) Goes
        (λ may.
        let same = settled_same op s stored stamped ok may in
        call_kept number opening m k i p me
        (answers_at (settled x (next_of op s)) Idle (receipt_by x op s)) m.places
        (record {
          others = alone number opening m k i p me busy;
          canonical = reply_canonical s op (subst IsCanonicalState (sym ok.before) k.canonical);
          index = refl;
          tells = (ok.before, refl, refl);
          open' = λ _. same;
          free = λ _. (same, refl);
          phase = tt;
          hard = λ l w at. off_ok w _ (ok.none l w at);
          uses = λ u h. no_owner (next_of op s).stamp u ok.none h;
        }))
        (λ _. onward (Known op s stored stamped) None refl ok)

  pub call_goes :
      (p : Phase) (step : CallStep)
      → slice_get m.callers i ≡ Some p
      → Kept number opening (after_call protocol m i step (Some p))
  unfolding call_result
  call_goes Idle (LockEntry op) me =
      cond_both x.locked (goes_to x Idle) (goes_to (record x { locked = true }) (Held op)) Goes
      (λ _. same_kept number opening m k i Idle me) (λ free. lock_free op me free)
  call_goes (Held op) LoadDoubleword1 me = load (Held op) me refl op (k.phases i (Held op) me)
  call_goes Leaving UnlockEntry me = release Leaving me refl (k.phases i Leaving me)
  call_goes (Ready op s) SetBitsAtomically me =
      cond_both (is_access op)
      (answers_at (touched_entry x (pair_here x) op) Leaving (receipt_by x op (with_seen_bits s x)))
      (goes_to x (Ready op s)) Goes
      (λ is. touch (Ready op s) me refl op s (k.phases i (Ready op s) me) is)
      (λ _. same_kept number opening m k i (Ready op s) me)
  call_goes (Ready op s) ClearValid me = clear (Ready op s) me refl op s (k.phases i
      (Ready op s) me)
  call_goes (Invalidated op s) BeginTlbie me = begin' (Invalidated op s) me refl op s (k.phases i
      (Invalidated op s) me)
  call_goes (Flushing op s) EndTlbie me =
      let ok = k.phases i (Flushing op s) me in end' (Flushing op s) me refl op s ok.0 ok.1
  call_goes (Flushed op s) ReloadDoubleword1 me =
      let ok = k.phases i (Flushed op s) me in reload (Flushed op s) me refl op s ok.0 ok.1
  call_goes (Known op s stored stamped) StoreDoubleword1 me =
      store_word (Known op s stored stamped) me refl op s stored stamped
      (k.phases i (Known op s stored stamped) me)
  call_goes (Known op s stored stamped) StoreStamp me =
      store_stamp (Known op s stored stamped) me refl op s stored stamped
      (k.phases i (Known op s stored stamped) me)
  call_goes (Known op s stored stamped) StoreDoubleword0 me =
      settle (Known op s stored stamped) me refl op s stored stamped
      (k.phases i (Known op s stored stamped) me)
  call_goes p step me = same_kept number opening m k i p me
