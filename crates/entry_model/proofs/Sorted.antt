-- A chain of receipts is still a chain when it is sorted by place.
use Rattle.std.proofs.Common.{◌≡◌, ℕ, ◌+◌, ◌*◌, ◌<◌, ◌≤◌, List, [], ◌∷◌, Bool, true, false, cond, arith, ap, sym, ◌∙◌, refl, subst, ◌⊎◌, inl, inr}
use Rattle.std.proofs.lemmas.Bool.{and_parts, eq-eqb, eqb-true, cond_both}
use Rattle.std.proofs.lemmas.Bool.Decides.{nat_tests}
use Rattle.entry_model.specs.State.{State, OnlyRaisesBits, Follows}
use Rattle.entry_model.specs.declared.receipt.Receipt.{Receipt}
use Rattle.entry_model.specs.Receipt.{after_of}
use Rattle.entry_model.proofs.Follows.{reply_follows, same_or_more}
use Rattle.entry_model.specs.History.{bits, IsLegal, by_place, put_in, precedes, place, pair_of, state_eq}
use Rattle.basics.proofs.Bools.{bool_same, bool_self}

-- ---- the test of equal states
same_fields :
    (s t : State)
    → s.valid ≡ t.valid
    → s.dword0 ≡ t.dword0
    → s.dword1 ≡ t.dword1
    → s.referenced ≡ t.referenced
    → s.changed ≡ t.changed
    → s.stamp ≡ t.stamp
    → s ≡ t
same_fields s t a b c d e f =
    λ i.
    record { valid = a i; dword0 = b i; dword1 = c i; referenced = d i; changed = e i; stamp = f i }

pub state_same : (s t : State) → state_eq s t ≡ true → s ≡ t
unfolding state_eq
state_same s t h =
    let halves = and_parts _ _ h in
    let left = and_parts _ _ halves.0 in
    let left' = and_parts _ _ left.0 in
    let right = and_parts _ _ halves.1 in
    let right' = and_parts _ _ right.0 in
    same_fields s t (bool_same s.valid t.valid left'.0) (eqb-true s.dword0 t.dword0 left'.1)
    (eqb-true s.dword1 t.dword1 left.1) (bool_same s.referenced t.referenced right'.0)
    (bool_same s.changed t.changed right'.1) (eqb-true s.stamp t.stamp right.1)

pub state_self : (s : State) → state_eq s s ≡ true
unfolding state_eq
state_self s =
    rw (
      bool_self s.valid,
      bool_self s.referenced,
      bool_self s.changed,
      eq-eqb s.dword0 s.dword0 refl,
      eq-eqb s.dword1 s.dword1 refl,
      eq-eqb s.stamp s.stamp refl,
    )

pub bits_low : (r c : Bool) → cond r 1 0 + cond c 1 0 ≤ 2
bits_low true true = omega arith
bits_low true false = omega arith
bits_low false true = omega arith
bits_low false false = omega arith

-- a higher stamp is a higher pair
stamp_rises : (s t : State) → s.stamp < t.stamp → pair_of s < pair_of t
unfolding pair_of
stamp_rises s t h = omega (arith, bits_low s.referenced s.changed)

-- and so are more bits at one stamp
bits_rise : (s t : State) → t.stamp ≡ s.stamp → bits s < bits t → pair_of s < pair_of t
unfolding pair_of
bits_rise s t e h = omega arith

-- A receipt leaves the state as it is, or raises its pair.
pub rises : (r : Receipt) → (after_of r ≡ r.before) ⊎ (pair_of r.before < pair_of (after_of r))
rises r = at (reply_follows r.before r.op) where
  at_bits :
      OnlyRaisesBits r.before (after_of r)
      → (after_of r ≡ r.before) ⊎ (bits r.before < bits (after_of r))
      → (after_of r ≡ r.before) ⊎ (pair_of r.before < pair_of (after_of r))
  at_bits h (inl same) = inl same
  at_bits h (inr more) = inr (bits_rise r.before (after_of r) h.stamp more)

  at :
      Follows r.before (after_of r)
      → (after_of r ≡ r.before) ⊎ (pair_of r.before < pair_of (after_of r))
  at (inl further) = at_bits further (same_or_more r.before (after_of r) further)
  at (inr higher) = inr (stamp_rises r.before (after_of r) higher)

-- the third part of a place
flag_low :
    (b : Bool) (n : ℕ)
    → (n ≤ n + cond b 0 1) × (n + cond b 0 1 ≤ n + 1) × (n + cond b 0 1 ≤ n → b ≡ true)
flag_low true n = (omega arith, omega arith, λ _. refl)
flag_low false n = (omega arith, omega arith, λ h. absurd (omega arith))

pub flag :
    (r : Receipt)
    → (pair_of r.before * 2 ≤ place r)
    × (place r ≤ pair_of r.before * 2 + 1)
    × (place r ≤ pair_of r.before * 2 → state_eq (after_of r) r.before ≡ true)
unfolding place
flag r = flag_low (state_eq (after_of r) r.before) (pair_of r.before * 2)

-- only a receipt that changed nothing has the lowest place of its state
pub place_unchanged : (r : Receipt) → place r ≤ pair_of r.before * 2 → after_of r ≡ r.before
place_unchanged r h = state_same (after_of r) r.before ((flag r).2 h)

-- and it has it
pub place_same : (r : Receipt) → after_of r ≡ r.before → place r ≡ pair_of r.before * 2
unfolding place
place_same r e =
    ap (λ s. pair_of r.before * 2 + cond (state_eq s r.before) 0 1) e
    ∙ rw (state_self r.before) (omega arith)

-- ---- one receipt put into a sorted chain
precedes_low : (x y : Receipt) → place x < place y → precedes x y ≡ true
precedes_low x y h = grind (arith, nat_tests)

pub not_precedes : (x y : Receipt) → precedes x y ≡ false → place y ≤ place x
not_precedes x y h = grind (arith, nat_tests)

-- a receipt that changed nothing, before y and ys
put_before :
    (a b : State) (x y : Receipt) (ys : List Receipt)
    → x.before ≡ a
    → after_of x ≡ a
    → IsLegal a (y ∷ ys) b
    → (IsLegal a ys b → IsLegal a (put_in x ys) b)
    → IsLegal a (put_in x (y ∷ ys)) b
put_before a b x y ys before after h rest =
    cond_both (precedes x y) (x ∷ y ∷ ys) (y ∷ put_in x ys) (λ l. IsLegal a l b) first second where
      first : precedes x y ≡ true → IsLegal a (x ∷ y ∷ ys) b
      first e = (before, (h.0 ∙ sym after, h.1))

      second : precedes x y ≡ false → IsLegal a (y ∷ put_in x ys) b
      second e =
          let low : place x ≡ pair_of a * 2 = place_same x (after ∙ sym before) ∙ ap
          (λ s. pair_of s * 2) before in
          let level : pair_of y.before ≡ pair_of a = ap pair_of h.0 in
          let stays : after_of y ≡ a = place_unchanged y (omega (arith, not_precedes x y e)) ∙ h.0
          in (
            h.0,
            subst (λ s. IsLegal s (put_in x ys) b) (sym stays)
                (rest (subst (λ s. IsLegal s ys b) stays h.1)),
          )

put_same :
    (a b : State) (x : Receipt) (ys : List Receipt)
    → x.before ≡ a
    → after_of x ≡ a
    → IsLegal a ys b
    → IsLegal a (put_in x ys) b
put_same a b x [] before after h = (before, h ∙ sym after)
put_same a b x (y ∷ ys) before after h =
    put_before a b x y ys before after h (put_same a b x ys before after)

-- a receipt that changed something
put_changed :
    (a b : State) (x : Receipt) (ys : List Receipt)
    → x.before ≡ a
    → pair_of a < pair_of (after_of x)
    → IsLegal (after_of x) ys b
    → IsLegal a (put_in x ys) b
put_changed a b x [] before rise h = (before, h)
put_changed a b x (y ∷ ys) before rise h =
    let mine : place x ≤ pair_of a * 2 + 1 = subst (λ s. place x ≤ pair_of s * 2 + 1) before
    (flag x).1 in
    let other : pair_of (after_of x) * 2 ≤ place y = subst (λ s. pair_of s * 2 ≤ place y) h.0
    (flag y).0 in
    let first : precedes x y ≡ true = precedes_low x y (omega arith) in
    rw first (before, h)

-- one receipt put in
put_one :
    (a b : State) (x : Receipt) (ys : List Receipt)
    → x.before ≡ a
    → IsLegal (after_of x) ys b
    → IsLegal a (put_in x ys) b
put_one a b x ys before h = at (rises x) where
  at :
      (after_of x ≡ x.before) ⊎ (pair_of x.before < pair_of (after_of x))
      → IsLegal a (put_in x ys) b
  at (inl same) =
      put_same a b x ys before (same ∙ before) (subst (λ s. IsLegal s ys b) (same ∙ before) h)
  at (inr more) =
      put_changed a b x ys before (subst (λ s. pair_of s < pair_of (after_of x)) before more) h

-- sorted by place it is still a chain between the same states
pub legal_by_place : (a b : State) (xs : List Receipt) → IsLegal a xs b → IsLegal a (by_place xs) b
legal_by_place a b [] h = h
legal_by_place a b (x ∷ xs) h =
    put_one a b x (by_place xs) h.0 (legal_by_place (after_of x) b xs h.1)
