-- A step of a caller or of a place keeps what is kept, by what it does to the entry.
use Rattle.std.specs.Prelude.{slice_get}
use Rattle.std.proofs.Common.{◌≡◌, ◌≢◌, ◌⊎◌, ℕ, zero, suc, true, false, List, [], ◌∷◌, ◌++◌, map, set, inl, inr, ⊎_elim, refl, sym, ap, ◌∙◌, subst, Option, Some, None, arith}
use Rattle.std.proofs.lemmas.Bool.{cases_Bool, false≢true}
use Rattle.entry_model.specs.State.{State, IsCanonicalState}
use Rattle.entry_model.specs.History.{IsLegal}
use Rattle.entry_model.specs.Receipt.{after_of}
use Rattle.entry_model.specs.declared.operation.Op.{Op}
use Rattle.entry_model.specs.declared.receipt.Receipt.{Receipt}
use Rattle.entry_model.proofs.Logged.{legal_more}
use Rattle.lock_core.proofs.Lists.{some_same, none_some, at_set, set_else, set_again, set_found, at_mapped}
use Rattle.hardware_walk.specs.Words.{Entry}
use Rattle.hardware_walk.specs.Machine.{Phase, Idle, is_idle, Place, Empty, HalfWalked, Translated, is_on, is_old, made_old, HardwareAccess, Machine}
use Rattle.hardware_walk.specs.Steps.{CallResult, WalkResult, logged, noted}
use Rattle.hardware_walk.specs.Laws.{Owes, IsReceiptOfUse, IsListed}
use Rattle.hardware_walk.proofs.Kept.{Same, PhaseOk, PlaceOk, AllOld, Kept}

-- ---- lists
module _ {A : Type 0} where
  pub more_at :
      (xs ys : List A) (n : ℕ) (a : A) → slice_get xs n ≡ Some a → slice_get (xs ++ ys) n ≡ Some a
  more_at [] ys n a h = absurd (none_some a h)
  more_at (x ∷ xs) ys zero a h = h
  more_at (x ∷ xs) ys (suc n) a h = more_at xs ys n a h

  pub last_at : (xs : List A) (a : A) → (n : ℕ) × (slice_get (xs ++ a ∷ []) n ≡ Some a)
  last_at [] a = (zero, refl)
  last_at (x ∷ xs) a = (let r = last_at xs a in (suc r.0, r.1))

  pub at_end :
      (xs : List A) (b : A) (n : ℕ) (a : A)
      → slice_get (xs ++ b ∷ []) n ≡ Some a
      → (slice_get xs n ≡ Some a) ⊎ (b ≡ a)
  at_end [] b zero a h = inr (some_same b a h)
  at_end [] b (suc n) a h = absurd (none_some a h)
  at_end (x ∷ xs) b zero a h = inl h
  at_end (x ∷ xs) b (suc n) a h = at_end xs b n a h

-- ---- the log
pub logged_at :
    (log : List Receipt) (made : Option Receipt) (n : ℕ) (r : Receipt)
    → slice_get log n ≡ Some r
    → slice_get (logged log made) n ≡ Some r
logged_at log None n r h = h
logged_at log (Some s) n r h = more_at log (s ∷ []) n r h

pub logged_last :
    (log : List Receipt) (made : Option Receipt) (r : Receipt)
    → made ≡ Some r
    → (n : ℕ) × (slice_get (logged log made) n ≡ Some r)
logged_last log None r h = absurd (none_some r h)
logged_last log (Some s) r h =
    subst (λ z. (n : ℕ) × (slice_get (log ++ s ∷ []) n ≡ Some z)) (some_same s r h) (last_at log s)

-- A receipt leads from the old state to the new one; without one it stays.
abbrev pub Tells : ℕ → State → Option Receipt → State → Type 0
Tells e before None after = after ≡ before
Tells e before (Some r) after = (r.before ≡ before) × (after_of r ≡ after) × (r.entry ≡ e)

listed_after :
    (e number : ℕ) (a b : State) (log : List Receipt) (made : Option Receipt)
    → e ≡ number
    → Tells e a made b
    → ((n : ℕ) (r : Receipt) → slice_get log n ≡ Some r → r.entry ≡ number)
    → (n : ℕ) (r : Receipt)
    → slice_get (logged log made) n ≡ Some r
    → r.entry ≡ number
listed_after e number a b log None is t old n r at = old n r at
listed_after e number a b log (Some s) is t old n r at =
    ⊎_elim {C = r.entry ≡ number} (λ (h : slice_get log n ≡ Some r). old n r h)
    (λ (h : s ≡ r). ap (λ (z : Receipt). z.entry) (sym h) ∙ t.2 ∙ is) (at_end log s n r at)

pub chain_on :
    (e : ℕ) (s a b : State) (log : List Receipt) (made : Option Receipt)
    → IsLegal s log a
    → Tells e a made b
    → IsLegal s (logged log made) b
chain_on e s a b log None legal t = subst (IsLegal s log) (sym t) legal
chain_on e s a b log (Some r) legal t = legal_more s a b log r legal t.0 t.1

-- ---- the places at a tlbie's begin
made_old_on : (w : Place) → is_on (made_old w) ≡ true → is_old (made_old w) ≡ true
made_old_on Empty h = h
made_old_on (HalfWalked old word) h = refl
made_old_on (Translated old p owed) h = refl

pub made_old_ok : (w : Place) (x : Entry) → PlaceOk w x → PlaceOk (made_old w) x
made_old_ok Empty x h = h
made_old_ok (HalfWalked old word) x h = h
made_old_ok (Translated old p owed) x h = h

made_old_owes : (op : Op) (w : Place) → Owes op w → Owes op (made_old w)
made_old_owes op Empty h = h
made_old_owes op (HalfWalked old word) h = h
made_old_owes op (Translated old p owed) h = h

pub all_made_old : (ws : List Place) → AllOld (map made_old ws)
all_made_old ws k w at on =
    let o = at_mapped made_old ws k w at in
    subst (λ z. is_old z ≡ true) o.2 (made_old_on o.0 (subst (λ z. is_on z ≡ true) (sym o.2) on))

map_at :
    (ws : List Place) (k : ℕ) (w : Place)
    → slice_get ws k ≡ Some w
    → slice_get (map made_old ws) k ≡ Some (made_old w)
map_at [] k w h = absurd (none_some w h)
map_at (v ∷ ws) zero w h = ap (λ z. Some (made_old z)) (some_same v w h)
map_at (v ∷ ws) (suc k) w h = map_at ws k w h

-- What a tlbie's begin leaves of uses.
pub begun_listed :
    (ws : List Place) (log : List Receipt) (n : ℕ) (u : HardwareAccess)
    → IsListed ws log n u
    → IsListed (map made_old ws) log n u
begun_listed ws log n u (inl h) =
    inl (h.0, made_old h.1, map_at ws h.0 h.1 h.2, made_old_owes u.op h.1 h.3, h.4)
begun_listed ws log n u (inr h) = inr h

pub begun_hard :
    (ws : List Place) (x : Entry)
    → ((k : ℕ) (w : Place) → slice_get ws k ≡ Some w → PlaceOk w x)
    → (k : ℕ) (w : Place)
    → slice_get (map made_old ws) k ≡ Some w
    → PlaceOk w x
begun_hard ws x hard k w at =
    let o = at_mapped made_old ws k w at in
    subst (λ z. PlaceOk z x) o.2 (made_old_ok o.0 x (hard k o.0 o.1))

-- What is on has something.
pub owes_on : (op : Op) (w : Place) → Owes op w → is_on w ≡ true
owes_on op Empty h = absurd h
owes_on op (HalfWalked old word) h = absurd h
owes_on op (Translated old p owed) h = refl

-- ---- a step of a caller
pub record CallChange (m : Machine) (i : ℕ) (t : CallResult) (ws : List Place) : Type 0 where
  pub others :
      (j : ℕ) (q : Phase) → j ≢ i → slice_get m.callers j ≡ Some q → is_idle q ≡ true
  pub canonical : IsCanonicalState t.entry.published
  pub index : t.entry.index ≡ m.entry.index
  pub tells : Tells m.entry.index m.entry.published t.made t.entry.published
  pub open' : t.entry.valid ≡ true → Same t.entry
  pub free : t.entry.locked ≡ false → Same t.entry × (is_idle t.phase ≡ true)
  pub phase : PhaseOk t.phase t.entry ws
  pub hard : (k : ℕ) (w : Place) → slice_get ws k ≡ Some w → PlaceOk w t.entry
  pub uses :
      (u : HardwareAccess)
      → IsListed m.places m.log m.entry.published.stamp u
      → IsListed ws m.log t.entry.published.stamp u

idle_ok : (p : Phase) (x : Entry) (ws : List Place) → is_idle p ≡ true → PhaseOk p x ws
idle_ok Idle x ws h = tt
idle_ok p x ws h = absurd (false≢true h)

listed_on :
    (ws : List Place) (log : List Receipt) (made : Option Receipt) (n : ℕ) (u : HardwareAccess)
    → IsListed ws log n u
    → IsListed ws (logged log made) n u
listed_on ws log made n u (inl h) = inl h
listed_on ws log made n u (inr h) = inr (h.0, h.1, logged_at log made h.0 h.1 h.2, h.3)

module _ (number : ℕ) (opening : State) (m : Machine) (k : Kept number opening m) where
  module _ (i : ℕ) (p : Phase) (me : slice_get m.callers i ≡ Some p) where
    -- Nobody else is at an operation.
    pub alone :
        is_idle p ≡ false
        → (j : ℕ) (q : Phase)
        → j ≢ i
        → slice_get m.callers j ≡ Some q
        → is_idle q ≡ true
    alone busy j q other is = at (cases_Bool (is_idle q)) where
      at : (is_idle q ≡ true) ⊎ (is_idle q ≡ false) → is_idle q ≡ true
      at (inl h) = h
      at (inr h) = absurd (other (k.one j i q p is me h busy))

    module _ (t : CallResult) (ws : List Place) (z : CallChange m i t ws) where
      idle_after :
          t.entry.locked ≡ false
          → (j : ℕ) (q : Phase)
          → slice_get (set m.callers i t.phase) j ≡ Some q
          → is_idle q ≡ true
      idle_after free j q is =
          ⊎_elim {C = is_idle q ≡ true}
          (λ (h : (j ≡ i) × (t.phase ≡ q)).
          subst (λ v. is_idle v ≡ true) h.1 (z.free free).1)
          (λ (h : (j ≢ i) × (slice_get m.callers j ≡ Some q)). z.others j q h.0 h.1)
          (at_set m.callers i j t.phase q is)

      -- One that is at an operation now is caller i.
      is_me :
          (j : ℕ) (q : Phase)
          → slice_get (set m.callers i t.phase) j ≡ Some q
          → is_idle q ≡ false
          → j ≡ i
      is_me j q is busy =
          ⊎_elim {C = j ≡ i} (λ (h : (j ≡ i) × (t.phase ≡ q)). h.0)
          (λ (h : (j ≢ i) × (slice_get m.callers j ≡ Some q)).
          absurd (false≢true (sym busy ∙ z.others j q h.0 h.1)))
          (at_set m.callers i j t.phase q is)

      phases_after :
          (j : ℕ) (q : Phase)
          → slice_get (set m.callers i t.phase) j ≡ Some q
          → PhaseOk q t.entry ws
      phases_after j q is =
          ⊎_elim {C = PhaseOk q t.entry ws}
          (λ (h : (j ≡ i) × (t.phase ≡ q)). subst (λ v. PhaseOk v t.entry ws) h.1 z.phase)
          (λ (h : (j ≢ i) × (slice_get m.callers j ≡ Some q)).
          idle_ok q t.entry ws (z.others j q h.0 h.1)) (at_set m.callers i j t.phase q is)

      pub call_kept :
          Kept number opening
          (record {
            entry = t.entry;
            callers = set m.callers i t.phase;
            places = ws;
            log = logged m.log t.made;
            used = m.used;
          })
      call_kept = record {
        canonical = z.canonical;
        chain =
            chain_on m.entry.index opening m.entry.published t.entry.published m.log t.made k.chain
            z.tells;
        index = z.index ∙ k.index;
        listed =
            listed_after m.entry.index number m.entry.published t.entry.published m.log t.made
            k.index z.tells k.listed;
        open' = z.open';
        free = λ f. (z.free f).0;
        idle = idle_after;
        one =
            λ a b v w is is' h h'. is_me a v is h ∙ sym (is_me b w is' h');
        phases = phases_after;
        hard = z.hard;
        uses =
            λ n u at.
            listed_on ws m.log t.made t.entry.published.stamp u (z.uses u (k.uses n u at));
      }

    -- A step that doesn't fit.
    pub same_kept :
        Kept number opening
        (record {
          entry = m.entry;
          callers = set m.callers i p;
          places = m.places;
          log = m.log;
          used = m.used;
        })
    same_kept =
        subst
        (λ cs.
        Kept number opening
        (record {
          entry = m.entry;
          callers = cs;
          places = m.places;
          log = m.log;
          used = m.used;
        })) (sym (set_again m.callers i p me)) k

  -- ---- a step of a place
  pub record WalkChange (l : ℕ) (w : Place) (t : WalkResult) : Type 0 where
    pub locked : t.entry.locked ≡ m.entry.locked
    pub valid : t.entry.valid ≡ m.entry.valid
    pub canonical : IsCanonicalState t.entry.published
    pub index : t.entry.index ≡ m.entry.index
    pub tells : Tells m.entry.index m.entry.published t.made t.entry.published
    pub stamp : t.entry.published.stamp ≡ m.entry.published.stamp
    pub same : Same m.entry → Same t.entry
    pub phases :
        (p : Phase) → PhaseOk p m.entry m.places → PhaseOk p t.entry (set m.places l t.place)
    pub mine : PlaceOk t.place t.entry
    pub others : (v : Place) → PlaceOk v m.entry → PlaceOk v t.entry
    pub owes :
        (u : HardwareAccess)
        → Owes u.op w
        → m.entry.published.stamp ≡ u.stamp
        → Owes u.op t.place ⊎ ((r : Receipt) × (t.made ≡ Some r) × IsReceiptOfUse u r)
    pub new' :
        (u : HardwareAccess)
        → t.access ≡ Some u
        → (Owes u.op t.place × (t.entry.published.stamp ≡ u.stamp))
        ⊎ ((r : Receipt) × (t.made ≡ Some r) × IsReceiptOfUse u r)

  -- A step that doesn't fit.
  pub still_kept :
      (l : ℕ) (w : Place)
      → slice_get m.places l ≡ Some w
      → Kept number opening
      (record {
        entry = m.entry;
        callers = m.callers;
        places = set m.places l w;
        log = m.log;
        used = m.used;
      })
  still_kept l w me =
      subst
      (λ cs.
      Kept number opening
      (record {
        entry = m.entry;
        callers = m.callers;
        places = cs;
        log = m.log;
        used = m.used;
      })) (sym (set_again m.places l w me)) k

  module _ (l : ℕ) (w : Place) (me : slice_get m.places l ≡ Some w) (t : WalkResult)
      (z : WalkChange l w t) where
    abbrev ws : List Place
    ws = set m.places l t.place

    abbrev log' : List Receipt
    log' = logged m.log t.made

    hard_after : (j : ℕ) (v : Place) → slice_get ws j ≡ Some v → PlaceOk v t.entry
    hard_after j v is =
        ⊎_elim {C = PlaceOk v t.entry}
        (λ (h : (j ≡ l) × (t.place ≡ v)). subst (λ y. PlaceOk y t.entry) h.1 z.mine)
        (λ (h : (j ≢ l) × (slice_get m.places j ≡ Some v)). z.others v (k.hard j v h.1))
        (at_set m.places l j t.place v is)

    -- It owes it, or it has just made the receipt.
    here :
        (u : HardwareAccess) (n : ℕ)
        → n ≡ u.stamp
        → Owes u.op t.place ⊎ ((r : Receipt) × (t.made ≡ Some r) × IsReceiptOfUse u r)
        → IsListed ws log' n u
    here u n stamp (inl owes) =
        inl (l, t.place, set_found m.places l w t.place me, owes, stamp)
    here u n stamp (inr h) =
        let e = logged_last m.log t.made h.0 h.1 in inr (e.0, h.0, e.1, h.2)

    not_here :
        (u : HardwareAccess) (j : ℕ) (v : Place)
        → j ≢ l
        → slice_get m.places j ≡ Some v
        → Owes u.op v
        → m.entry.published.stamp ≡ u.stamp
        → IsListed ws log' t.entry.published.stamp u
    not_here u j v other is owes stamp =
        inl (j, v, set_else m.places l j t.place other ∙ is, owes, z.stamp ∙ stamp)

    old_use :
        (u : HardwareAccess)
        → IsListed m.places m.log m.entry.published.stamp u
        → IsListed ws log' t.entry.published.stamp u
    old_use u (inr h) = inr (h.0, h.1, logged_at m.log t.made h.0 h.1 h.2, h.3)
    old_use u (inl h) = at (cases h.0 l) where
      cases : (a b : ℕ) → (a ≡ b) ⊎ (a ≢ b)
      cases zero zero = inl refl
      cases zero (suc b) = inr (λ e. omega arith)
      cases (suc a) zero = inr (λ e. omega arith)
      cases (suc a) (suc b) =
          ⊎_elim {C = (suc a ≡ suc b) ⊎ (suc a ≢ suc b)} (λ (e : a ≡ b). inl (ap suc e))
          (λ (n : a ≢ b). inr (λ e. n (omega arith))) (cases a b)

      at : (h.0 ≡ l) ⊎ (h.0 ≢ l) → IsListed ws log' t.entry.published.stamp u
      at (inl e) =
          let same : h.1 ≡ w = some_same h.1 w
          (sym h.2 ∙ subst (λ n. slice_get m.places n ≡ Some w) (sym e) me) in
          here u t.entry.published.stamp (z.stamp ∙ h.4)
          (z.owes u (subst (Owes u.op) same h.3) h.4)
      at (inr n) = not_here u h.0 h.1 n h.2 h.3 h.4

    new_use :
        (u : HardwareAccess)
        → t.access ≡ Some u
        → IsListed ws log' t.entry.published.stamp u
    new_use u is = at (z.new' u is) where
      at :
          (Owes u.op t.place × (t.entry.published.stamp ≡ u.stamp))
          ⊎ ((r : Receipt) × (t.made ≡ Some r) × IsReceiptOfUse u r)
          → IsListed ws log' t.entry.published.stamp u
      at (inl h) = inl (l, t.place, set_found m.places l w t.place me, h.0, h.1)
      at (inr h) = (let e = logged_last m.log t.made h.0 h.1 in inr (e.0, h.0, e.1, h.2))

    used_by :
        (access : Option HardwareAccess)
        → ((u : HardwareAccess) → access ≡ Some u → IsListed ws log' t.entry.published.stamp u)
        → (n : ℕ) (u : HardwareAccess)
        → slice_get (noted m.used access) n ≡ Some u
        → IsListed ws log' t.entry.published.stamp u
    used_by None new n u is = old_use u (k.uses n u is)
    used_by (Some v) new n u is =
        ⊎_elim {C = IsListed ws log' t.entry.published.stamp u}
        (λ (h : slice_get m.used n ≡ Some u). old_use u (k.uses n u h))
        (λ (h : v ≡ u). new u (ap (λ y. Some y) h)) (at_end m.used v n u is)

    pub walk_kept :
        Kept number opening
        (record {
          entry = t.entry;
          callers = m.callers;
          places = ws;
          log = log';
          used = noted m.used t.access;
        })
    walk_kept = record {
      canonical = z.canonical;
      chain =
          chain_on m.entry.index opening m.entry.published t.entry.published m.log t.made k.chain
          z.tells;
      index = z.index ∙ k.index;
      listed =
          listed_after m.entry.index number m.entry.published t.entry.published m.log t.made k.index
          z.tells k.listed;
      open' = λ v. z.same (k.open' (sym z.valid ∙ v));
      free = λ f. z.same (k.free (sym z.locked ∙ f));
      idle = λ f. k.idle (sym z.locked ∙ f);
      one = k.one;
      phases = λ j p is. z.phases p (k.phases j p is);
      hard = hard_after;
      uses = used_by t.access new_use;
    }
