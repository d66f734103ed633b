-- The steps of a place keep what is kept.
use Rattle.std.specs.Prelude.{slice_get}
use Rattle.std.proofs.Common.{not, ◌≡◌, ◌≢◌, ◌⊎◌, ℕ, zero, suc, ◌&&◌, ◌||◌, Bool, true, false, List, [], ◌∷◌, ◌++◌, set, inl, inr, ⊎_elim, refl, sym, ap, ◌∙◌, subst, Some, None}
use Rattle.std.proofs.lemmas.Bool.{cond_both, false≢true, and_parts}
use Rattle.entry_model.specs.State.{State}
use Rattle.entry_model.specs.Reply.{reply_of}
use Rattle.entry_model.specs.Receipt.{is_at}
use Rattle.entry_model.specs.declared.operation.Op.{Op}
use Rattle.entry_model.specs.declared.receipt.Receipt.{Receipt}
use Rattle.entry_model.proofs.Follows.{further_on}
use Rattle.entry_model.proofs.OperationLaws.{reply_canonical}
use Rattle.lock_core.proofs.Lists.{none_some, some_same, at_set}
use Rattle.hardware_walk.specs.Words.{Entry, Pair, pair_state, stores, allows, has_bits, touched_pair, touched_entry}
use Rattle.hardware_walk.specs.Machine.{Phase, Idle, Held, Leaving, Ready, Invalidated, Flushing, Flushed, Known, Place, Empty, HalfWalked, Translated, is_on, is_old, HardwareAccess, Machine}
use Rattle.hardware_walk.specs.Steps.{protocol, WalkStep, WalkDoubleword0, WalkDoubleword1, MakeAccess, Speculate, RecordBits, DropTranslation, WalkResult, walks_to, receipt_here, use_here, accessed, walk_result, logged, noted, after_walk}
use Rattle.hardware_walk.specs.Laws.{Owes, IsTranslation, IsReceiptOfUse}
use Rattle.hardware_walk.proofs.Answers.{same_answer, allows_parts, allowed_here, at_touches, covered_leaves}
use Rattle.hardware_walk.proofs.Touched.{memory_touched, same_touched, more_bits, inside_touched, translation_touched, place_touched}
use Rattle.hardware_walk.proofs.Kept.{Same, NoneOn, AllOld, PhaseOk, HalfOk, FullOk, PlaceOk, Kept}
use Rattle.hardware_walk.proofs.Frame.{last_at, at_end, more_at, walk_kept, still_kept}

-- ---- the other places
module _ (ws : List Place) (l : ℕ) (w w' : Place) (at : slice_get ws l ≡ Some w)
    (on : is_on w' ≡ true → is_on w ≡ true) where
  none_stays : NoneOn ws → NoneOn (set ws l w')
  none_stays none j v is =
      ⊎_elim {C = is_on v ≡ false}
      (λ (h : (j ≡ l) × (w' ≡ v)). subst (λ z. is_on z ≡ false) h.1 (off w' on (none l w at)))
      (λ (h : (j ≢ l) × (slice_get ws j ≡ Some v)). none j v h.1) (at_set ws l j w' v is) where
        off : (v : Place) → (is_on v ≡ true → is_on w ≡ true) → is_on w ≡ false → is_on v ≡ false
        off Empty f h = refl
        off (HalfWalked old word) f h = absurd (false≢true (sym h ∙ f refl))
        off (Translated old p owed) f h = absurd (false≢true (sym h ∙ f refl))

  old_stays : (is_on w' ≡ true → is_old w ≡ true → is_old w' ≡ true) → AllOld ws → AllOld
      (set ws l w')
  old_stays more old j v is up =
      ⊎_elim {C = is_old v ≡ true}
      (λ (h : (j ≡ l) × (w' ≡ v)).
      let up' : is_on w' ≡ true = subst (λ z. is_on z ≡ true) (sym h.1) up in
      subst (λ z. is_old z ≡ true) h.1 (more up' (old l w at (on up'))))
      (λ (h : (j ≢ l) × (slice_get ws j ≡ Some v)). old j v h.1 up) (at_set ws l j w' v is)

  phases_stay :
      (x : Entry)
      → (is_on w' ≡ true → is_old w ≡ true → is_old w' ≡ true)
      → (p : Phase)
      → PhaseOk p x ws
      → PhaseOk p x (set ws l w')
  phases_stay x more Idle ok = tt
  phases_stay x more (Held op) ok = ok
  phases_stay x more Leaving ok = ok
  phases_stay x more (Ready op s) ok = ok
  phases_stay x more (Invalidated op s) ok = ok
  phases_stay x more (Flushing op s) ok = (ok.0, old_stays more ok.1)
  phases_stay x more (Flushed op s) ok = (ok.0, none_stays ok.1)
  phases_stay x more (Known op s stored stamped) ok = record {
    shut = ok.shut;
    before = ok.before;
    none = none_stays ok.none;
    word = ok.word;
    stamp = ok.stamp;
  }

-- Where V is set in memory nobody waits for places.
phases_open :
    (ws ws' : List Place) (x : Entry)
    → x.valid ≡ true
    → (p : Phase)
    → PhaseOk p x ws
    → PhaseOk p x ws'
phases_open ws ws' x v Idle ok = tt
phases_open ws ws' x v (Held op) ok = ok
phases_open ws ws' x v Leaving ok = ok
phases_open ws ws' x v (Ready op s) ok = ok
phases_open ws ws' x v (Invalidated op s) ok = ok
phases_open ws ws' x v (Flushing op s) ok = absurd (false≢true (sym ok.0.shut ∙ v))
phases_open ws ws' x v (Flushed op s) ok = absurd (false≢true (sym ok.0.shut ∙ v))
phases_open ws ws' x v (Known op s stored stamped) ok = absurd (false≢true (sym ok.shut ∙ v))

-- ---- R and C recorded
module _ (x : Entry) (p : Pair) (op : Op) (has : IsTranslation p x.published)
    (at : is_at (reply_of x.published op).0 ≡ true) where
  abbrev y : Entry
  y = touched_entry x p op

  -- Where a place has the translation.
  phases_touched :
      (ws : List Place) (l : ℕ) (w w' : Place)
      → slice_get ws l ≡ Some w
      → is_on w ≡ true
      → (is_on w' ≡ true → is_old w ≡ true → is_old w' ≡ true)
      → (p : Phase)
      → PhaseOk p x ws
      → PhaseOk p y (set ws l w')
  phases_touched ws l w w' here on more Idle ok = tt
  phases_touched ws l w w' here on more (Held op') ok = same_touched x p op has at ok
  phases_touched ws l w w' here on more Leaving ok = same_touched x p op has at ok
  phases_touched ws l w w' here on more (Ready op' s) ok = (
    same_touched x p op has at ok.0,
    further_on s x.published y.published ok.1 (more_bits x p op has at),
    ok.2,
    ok.3,
  )
  phases_touched ws l w w' here on more (Invalidated op' s) ok = inside_touched x p op has at s ok
  phases_touched ws l w w' here on more (Flushing op' s) ok =
      (inside_touched x p op has at s ok.0, old_stays ws l w w' here (λ _. on) more ok.1)
  phases_touched ws l w w' here on more (Flushed op' s) ok =
      absurd (false≢true (sym (ok.1 l w here) ∙ on))
  phases_touched ws l w w' here on more (Known op' s stored stamped) ok =
      absurd (false≢true (sym (ok.none l w here) ∙ on))

bit_or_more : (p s w : Bool) → (p ≡ true → s ≡ true) → (p || w) ≡ true → (s || w) ≡ true
bit_or_more p true w f h = refl
bit_or_more p false true f h = refl
bit_or_more true false false f h = absurd (false≢true (f refl))
bit_or_more false false false f h = h

allows_touched : (p : Pair) (op o : Op) → allows p o ≡ true → allows (touched_pair p op) o ≡ true
unfolding allows
allows_touched p op o h =
    let a = allows_parts p o h in
    rw a.0
    (same_answer (pair_state p) (pair_state (touched_pair p op)) o refl refl refl a.0 a.1)

-- ---- the steps
abbrev pub put_walk : Machine → ℕ → WalkResult → Machine
put_walk m l t = record {
  entry = t.entry;
  callers = m.callers;
  places = set m.places l t.place;
  log = logged m.log t.made;
  used = noted m.used t.access;
}

module _ (number : ℕ) (opening : State) (m : Machine) (k : Kept number opening m) (l : ℕ) where
  abbrev e : Entry
  e = m.entry

  abbrev Goes : WalkResult → Type 0
  Goes t = Kept number opening (put_walk m l t)

  -- The entry stays, and so does what is recorded and what is to be.
  walk_on :
      (w w' : Place)
      → slice_get m.places l ≡ Some w
      → ((p : Phase) → PhaseOk p e m.places → PhaseOk p e (set m.places l w'))
      → PlaceOk w' e
      → ((op : Op) → Owes op w → Owes op w')
      → Goes (walks_to e w')
  walk_on w w' me phases mine owes =
      walk_kept number opening m k l w me (walks_to e w')
      (record {
        locked = refl;
        valid = refl;
        canonical = k.canonical;
        index = refl;
        tells = refl;
        stamp = refl;
        same = λ h. h;
        phases = phases;
        mine = mine;
        others = λ v h. h;
        owes = λ u h stamp. inl (owes u.op h);
        new' = λ u h. absurd (none_some u h);
      })

  first : slice_get m.places l ≡ Some Empty → e.valid ≡ true
      → Goes (walks_to e (HalfWalked false e.dword0))
  first me v =
      let same : Same e = k.open' v in
      let valid : e.published.valid ≡ true = sym same.valid ∙ v in
      walk_on Empty (HalfWalked false e.dword0) me
      (phases_open m.places (set m.places l (HalfWalked false e.dword0)) e v)
      (record { valid = valid; dword0 = same.dword0 valid; memory = same.memory valid })
      (λ op h. h)

  second :
      (old : Bool) (word : ℕ)
      → slice_get m.places l ≡ Some (HalfWalked old word)
      → Goes
      (walks_to e
      (Translated old
      (record {
        dword0 = word;
        dword1 = e.dword1;
        referenced = e.referenced;
        changed = e.changed;
      }) []))
  second old word me =
      let p : Pair = record {
        dword0 = word;
        dword1 = e.dword1;
        referenced = e.referenced;
        changed = e.changed;
      } in
      let h : HalfOk word e = k.hard l (HalfWalked old word) me in
      walk_on (HalfWalked old word) (Translated old p []) me
      (phases_stay m.places l (HalfWalked old word) (Translated old p []) me (λ z. z) e (λ _ z. z))
      (record {
        translation =
            record { valid = h.valid; dword0 = h.dword0; dword1 = h.memory.dword1 };
        memory = h.memory;
        referenced = λ b. sym h.memory.referenced ∙ b;
        changed = λ b. sym h.memory.changed ∙ b;
        allowed = λ n op at. absurd (none_some op at);
      })
      (λ op z. absurd z)

  drop' : (w : Place) → slice_get m.places l ≡ Some w → ((op : Op) → Owes op w → ⊥)
      → Goes (walks_to e Empty)
  drop' w me owes =
      walk_on w Empty me
      (phases_stay m.places l w Empty me (λ h. absurd (false≢true h)) e
      (λ up h. absurd (false≢true up))) tt
      (λ op h. absurd (owes op h))

  module _ (old : Bool) (p : Pair) (owed : List Op)
      (me : slice_get m.places l ≡ Some (Translated old p owed)) where
    abbrev ok : FullOk p owed e
    ok = k.hard l (Translated old p owed) me

    -- An access that is allowed: its bits are there, or are owed.
    access_there : (op : Op) → allows p op ≡ true → has_bits p op ≡ true
        → Goes
        (record {
          entry = e;
          place = Translated old p owed;
          made = Some (receipt_here e op);
          access = Some (use_here e op);
        })
    access_there op al has =
        let at : is_at (reply_of e.published op).0 ≡ true = allowed_here p e.published op
        ok.translation al in
        let t : WalkResult = record {
          entry = e;
          place = Translated old p owed;
          made = Some (receipt_here e op);
          access = Some (use_here e op);
        } in
        walk_kept number opening m k l (Translated old p owed) me t
        (record {
          locked = refl;
          valid = refl;
          canonical = k.canonical;
          index = refl;
          tells = (
            refl,
            covered_leaves p e.published op has ok.referenced ok.changed at,
            refl,
          );
          stamp = refl;
          same = λ h. h;
          phases =
              phases_stay m.places l (Translated old p owed) (Translated old p owed) me (λ z. z) e
              (λ _ z. z);
          mine = ok;
          others = λ v h. h;
          owes = λ u h stamp. inl h;
          new' =
              λ u h.
              inr (
                receipt_here e op,
                refl,
                subst (λ v. IsReceiptOfUse v (receipt_here e op)) (some_same (use_here e op) u h)
                    (record { op = refl; at = at; stamp = refl }),
              );
        })

    access_owed : (op : Op) → allows p op ≡ true
        → Goes
        (record {
          entry = e;
          place = Translated old p (owed ++ op ∷ []);
          made = None;
          access = Some (use_here e op);
        })
    access_owed op al =
        let w' : Place = Translated old p (owed ++ op ∷ []) in
        let t : WalkResult = record {
          entry = e;
          place = w';
          made = None;
          access = Some (use_here e op);
        } in
        walk_kept number opening m k l (Translated old p owed) me t
        (record {
          locked = refl;
          valid = refl;
          canonical = k.canonical;
          index = refl;
          tells = refl;
          stamp = refl;
          same = λ h. h;
          phases = phases_stay m.places l (Translated old p owed) w' me (λ z. z) e (λ _ z. z);
          mine = record {
            translation = ok.translation;
            memory = ok.memory;
            referenced = ok.referenced;
            changed = ok.changed;
            allowed =
                λ n o at.
                ⊎_elim {C = allows p o ≡ true}
                (λ (h : slice_get owed n ≡ Some o). ok.allowed n o h)
                (λ (h : op ≡ o). subst (λ z. allows p z ≡ true) h al) (at_end owed op n o at);
          };
          others = λ v h. h;
          owes = λ u h stamp. inl (h.0, more_at owed (op ∷ []) h.0 u.op h.1);
          new' =
              λ u h.
              inl
              (subst
              (λ (v : HardwareAccess). Owes v.op w' × (e.published.stamp ≡ v.stamp))
              (some_same (use_here e op) u h) (last_at owed op, refl));
        })

    load_speculated : (op : Op) → allows p op ≡ true
        → Goes
        (record {
          entry = e;
          place = Translated old p (owed ++ op ∷ []);
          made = None;
          access = None;
        })
    load_speculated op al =
        let w' : Place = Translated old p (owed ++ op ∷ []) in
        let t : WalkResult = record {
          entry = e;
          place = w';
          made = None;
          access = None;
        } in
        walk_kept number opening m k l (Translated old p owed) me t
        (record {
          locked = refl;
          valid = refl;
          canonical = k.canonical;
          index = refl;
          tells = refl;
          stamp = refl;
          same = λ h. h;
          phases = phases_stay m.places l (Translated old p owed) w' me (λ z. z) e (λ _ z. z);
          mine = record {
            translation = ok.translation;
            memory = ok.memory;
            referenced = ok.referenced;
            changed = ok.changed;
            allowed =
                λ n o at.
                ⊎_elim {C = allows p o ≡ true}
                (λ (h : slice_get owed n ≡ Some o). ok.allowed n o h)
                (λ (h : op ≡ o). subst (λ z. allows p z ≡ true) h al) (at_end owed op n o at);
          };
          others = λ v h. h;
          owes = λ u h stamp. inl (h.0, more_at owed (op ∷ []) h.0 u.op h.1);
          new' = λ u h. absurd (none_some u h);
        })

  record' :
      (old : Bool) (p : Pair) (op : Op) (owed : List Op)
      → slice_get m.places l ≡ Some (Translated old p (op ∷ owed))
      → Goes
      (record {
        entry = touched_entry e p op;
        place = Translated old (touched_pair p op) owed;
        made = Some (receipt_here e op);
        access = None;
      })
  record' old p op owed me =
      let ok : FullOk p (op ∷ owed) e = k.hard l (Translated old p (op ∷ owed)) me in
      let al : allows p op ≡ true = ok.allowed zero op refl in
      let at : is_at (reply_of e.published op).0 ≡ true = allowed_here p e.published op
      ok.translation al in
      let w : Place = Translated old p (op ∷ owed) in
      let p' : Pair = touched_pair p op in
      let w' : Place = Translated old p' owed in
      let t : WalkResult = record {
        entry = touched_entry e p op;
        place = w';
        made = Some (receipt_here e op);
        access = None;
      } in
      let n = at_touches e.published op at in
      walk_kept number opening m k l w me t
      (record {
        locked = refl;
        valid = refl;
        canonical = reply_canonical e.published op k.canonical;
        index = refl;
        tells = (refl, refl, refl);
        stamp = ap (λ (s : State). s.stamp) n;
        same = same_touched e p op ok.translation at;
        phases = phases_touched e p op ok.translation at m.places l w w' me refl (λ _ z. z);
        mine = record {
          translation =
              (let h = translation_touched e p op ok.translation at p ok.translation in
              record { valid = h.valid; dword0 = h.dword0; dword1 = h.dword1 });
          memory = memory_touched e p op ok.translation at ok.memory;
          referenced = λ _. ap (λ (s : State). s.referenced) n;
          changed =
              λ b.
              ap (λ (s : State). s.changed) n
              ∙ bit_or_more p.changed e.published.changed (stores op) ok.changed b;
          allowed = λ j o h. allows_touched p op o (ok.allowed (suc j) o h);
        };
        others = place_touched e p op ok.translation at;
        owes = λ u h stamp. owed_or_made u h.0 h.1 stamp at;
        new' = λ u h. absurd (none_some u h);
      }) where
        owed_or_made :
            (u : HardwareAccess) (j : ℕ)
            → slice_get (op ∷ owed) j ≡ Some u.op
            → e.published.stamp ≡ u.stamp
            → is_at (reply_of e.published op).0 ≡ true
            → Owes u.op (Translated old (touched_pair p op) owed)
            ⊎ ((r : Receipt)
            × (Some (receipt_here e op) ≡ Some r)
            × IsReceiptOfUse u r)
        owed_or_made u zero h stamp at =
            inr
            (receipt_here e op, refl, record { op = some_same op u.op h; at = at; stamp = stamp })
        owed_or_made u (suc j) h stamp at = inl (j, h)

  none_owed : (op : Op) → (n : ℕ) × (slice_get [] n ≡ Some op) → ⊥
  none_owed op h = none_some op h.1

  pub walk_goes :
      (w : Place) (step : WalkStep)
      → slice_get m.places l ≡ Some w
      → Kept number opening (after_walk protocol m l step (Some w))
  unfolding walk_result
  walk_goes Empty WalkDoubleword0 me =
      cond_both e.valid (HalfWalked false e.dword0) Empty (λ w. Goes (walks_to e w)) (first me)
      (λ _. still_kept number opening m k l Empty me)
  walk_goes (HalfWalked old word) WalkDoubleword1 me = second old word me
  walk_goes (Translated old p owed) (MakeAccess op) me =
      cond_both (allows p op) (accessed e old p owed op) (walks_to e (Translated old p owed)) Goes
      (λ al.
      cond_both (has_bits p op)
      (record {
        entry = e;
        place = Translated old p owed;
        made = Some (receipt_here e op);
        access = Some (use_here e op);
      })
      (record {
        entry = e;
        place = Translated old p (owed ++ op ∷ []);
        made = None;
        access = Some (use_here e op);
      }) Goes
      (access_there old p owed me op al) (λ _. access_owed old p owed me op al))
      (λ _. still_kept number opening m k l (Translated old p owed) me)
  walk_goes (Translated old p owed) (Speculate op) me =
      cond_both (allows p op && not (stores op)) (owed ++ op ∷ []) owed
      (λ o. Goes (walks_to e (Translated old p o)))
      (λ al. load_speculated old p owed me op (and_parts _ _ al).0)
      (λ _. still_kept number opening m k l (Translated old p owed) me)
  walk_goes (Translated old p (op ∷ owed)) RecordBits me = record' old p op owed me
  walk_goes (HalfWalked old word) DropTranslation me = drop' (HalfWalked old word) me (λ op h. h)
  walk_goes (Translated old p []) DropTranslation me = drop' (Translated old p []) me none_owed
  walk_goes (Translated old p (op ∷ owed)) DropTranslation me = still_kept number opening m k l
      (Translated old p (op ∷ owed)) me
  walk_goes w step me = still_kept number opening m k l w me
