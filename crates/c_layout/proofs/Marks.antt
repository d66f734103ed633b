-- Marks: one change after the other, and what a mark shows.
use Rattle.std.specs.Prelude.{◌||◌, not}
use Rattle.std.proofs.Common.{◌≡◌, ℕ, zero, suc, ◌<◌, ◌⊎◌, inl, inr, List, [], ◌∷◌, length, set, get_or, Bool, true, false, arith, refl, sym, ap, subst, ◌∙◌}
use Rattle.std.proofs.lemmas.Bool.{cases_Bool}
use Rattle.std.proofs.lemmas.List.{length-map}
use Rattle.entry_model.specs.State.{State, empty_state, Follows}
use Rattle.entry_model.specs.History.{state_eq, bits}
use Rattle.entry_model.proofs.Follows.{stays, follows_on, same_or_more}
use Rattle.entry_model.proofs.Sorted.{state_same, state_self}
use Rattle.c_layout.specs.EntryFacts.{same_entry}
use Rattle.c_layout.specs.Entries.{Entry, states_of, entry_with, entries_with, AreMarked, IsPassed, ArePassed}
use Rattle.std.proofs.Math.Bool.{or-true}

-- ---- states and entries
pub states-length : (es : List Entry) → length (states_of es) ≡ length es
states-length es = length-map es (λ (e : Entry). e.state)

pub states-set :
    (es : List Entry) (i : ℕ) (e : Entry) → states_of (set es i e) ≡ set (states_of es) i e.state
states-set [] i e = refl
states-set (x ∷ es) zero e = refl
states-set (x ∷ es) (suc i) e = ap (λ ss. x.state ∷ ss) (states-set es i e)

-- An empty entry that isn't marked.
abbrev pub no_entry : Entry
no_entry = record { state = empty_state 0; marked = false }

-- Later both ways is the same.
no_way_back : (s t : State) → Follows s t → Follows t s → t ≡ s
no_way_back s t (inl a) (inl b) = at (same_or_more s t a) (same_or_more t s b) where
  at : (t ≡ s) ⊎ (bits s < bits t) → (s ≡ t) ⊎ (bits t < bits s) → t ≡ s
  at (inl same) more = same
  at (inr up) (inl same) = sym same
  at (inr up) (inr down) = absurd (omega (arith, up, down))
no_way_back s t (inl a) (inr b) = absurd (omega (arith, a.stamp, b))
no_way_back s t (inr a) (inl b) = absurd (omega (arith, a, b.stamp))
no_way_back s t (inr a) (inr b) = absurd (omega (arith, a, b))

-- A state that was left isn't come back to, so the last state shows whether one of two changes was
-- made.
told_once :
    (s t u : State)
    → Follows s t
    → Follows t u
    → (not (state_eq s t) || not (state_eq t u)) ≡ not (state_eq s u)
told_once s t u a b = at (cases_Bool (state_eq s t)) (cases_Bool (state_eq s u)) where
  at :
      (state_eq s t ≡ true) ⊎ (state_eq s t ≡ false)
      → (state_eq s u ≡ true) ⊎ (state_eq s u ≡ false)
      → (not (state_eq s t) || not (state_eq t u)) ≡ not (state_eq s u)
  at (inl same) other = rw (same, state_same s t same) refl
  at (inr left) (inr other) = rw (left, other) refl
  at (inr left) (inl back) =
      let here : t ≡ s =
      no_way_back s t a (subst (λ x. Follows t x) (sym (state_same s u back)) b) in
      let same : state_eq s t ≡ true = ap (state_eq s) here ∙ state_self s in
      absurd (cc)

pub or_assoc : (a b c : Bool) → ((a || b) || c) ≡ (a || (b || c))
or_assoc true b c = refl
or_assoc false b c = refl

pub passed_on : (a b c : Entry) → IsPassed a b → IsPassed b c → IsPassed a c
passed_on a b c p q =
    let was : b.marked ≡ (a.marked || not (state_eq a.state b.state)) =
    ap (λ (e : Entry). e.marked) p.marked in
    record {
      marked =
          q.marked
          ∙ λ k. record {
            state = c.state;
            marked = (ap (λ m. m || not (state_eq b.state c.state)) was
                ∙ or_assoc a.marked (not (state_eq a.state b.state))
                (not (state_eq b.state c.state))
                ∙ ap (λ m. a.marked || m) (told_once a.state b.state c.state p.later q.later)) k;
          };
      later = follows_on a.state b.state c.state p.later q.later;
    }

-- ---- all of them
pub passed_none : (es : List Entry) → ArePassed es es
passed_none [] = tt
passed_none (e ∷ es) =
    (record { marked = sym (same_entry e); later = stays e.state }, passed_none es)

pub passed_both :
    (xs ys zs : List Entry) → ArePassed xs ys → ArePassed ys zs → ArePassed xs zs
passed_both [] [] [] p q = tt
passed_both [] [] (c ∷ zs) p q = q
passed_both [] (b ∷ ys) zs p q = absurd p
passed_both (a ∷ xs) [] zs p q = absurd p
passed_both (a ∷ xs) (b ∷ ys) [] p q = q
passed_both (a ∷ xs) (b ∷ ys) (c ∷ zs) p q =
    (passed_on a b c p.0 q.0, passed_both xs ys zs p.1 q.1)

-- One entry has another state.
pub passed_one :
    (es : List Entry) (i : ℕ) (d e : Entry)
    → i < length es
    → IsPassed (get_or es i d) e
    → ArePassed es (set es i e)
passed_one [] i d e inside p = absurd (omega (arith, inside))
passed_one (x ∷ es) zero d e inside p = (p, passed_none es)
passed_one (x ∷ es) (suc i) d e inside p = (
  record { marked = sym (same_entry x); later = stays x.state },
  passed_one es i d e (omega (arith, inside)) p,
)

pub passed_marked : (xs ys : List Entry) → ArePassed xs ys → AreMarked xs ys
passed_marked [] [] p = refl
passed_marked [] (b ∷ ys) p = absurd p
passed_marked (a ∷ xs) [] p = absurd p
passed_marked (a ∷ xs) (b ∷ ys) p = λ k. p.0.marked k ∷ passed_marked xs ys p.1 k

pub marked_none : (es : List Entry) → AreMarked es es
marked_none es = passed_marked es es (passed_none es)

-- ---- laws
pub given_states :
    (es : List Entry) (ss : List State)
    → length ss ≡ length es
    → states_of (entries_with es ss) ≡ ss
given_states [] [] same = refl
given_states [] (s ∷ ss) same = absurd (omega (arith, same))
given_states (e ∷ es) [] same = absurd (omega (arith, same))
given_states (e ∷ es) (s ∷ ss) same =
    ap (λ xs. s ∷ xs) (given_states es ss (omega (arith, same)))

pub change_marked :
    (e : Entry) (s : State) → (e.state ≡ s → ⊥) → (entry_with e s).marked ≡ true
change_marked e s other = at (cases_Bool (state_eq e.state s)) where
  at :
      (state_eq e.state s ≡ true) ⊎ (state_eq e.state s ≡ false)
      → (entry_with e s).marked ≡ true
  at (inl same) = absurd (other (state_same e.state s same))
  at (inr not_same) = rw not_same (or-true e.marked)

pub unmarked_same : (e : Entry) (s : State) → (entry_with e s).marked ≡ false → e.state ≡ s
unmarked_same e s none = at (cases_Bool (state_eq e.state s)) where
  at : (state_eq e.state s ≡ true) ⊎ (state_eq e.state s ≡ false) → e.state ≡ s
  at (inl same) = state_same e.state s same
  at (inr other) =
      let marked : (entry_with e s).marked ≡ true = rw other (or-true e.marked) in
      absurd (cc)
