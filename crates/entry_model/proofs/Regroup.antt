-- The history doesn't depend on the order in which receipts are listed, except for receipts that
-- tie; and these may change places.
use Rattle.std.specs.Prelude.{filter}
use Rattle.std.proofs.Common.{◌≡◌, ℕ, ◌*◌, ◌<◌, List, [], ◌∷◌, Bool, true, false, cond, arith, ap, sym, ◌∙◌, refl, subst, ◌⊎◌, inl, inr, eqb}
use Rattle.std.proofs.lemmas.Bool.{cases_Bool, cond_both}
use Rattle.std.proofs.lemmas.Bool.Decides.{nat_tests}
use Rattle.entry_model.specs.State.{State}
use Rattle.entry_model.specs.declared.receipt.Receipt.{Receipt}
use Rattle.entry_model.specs.Receipt.{after_of}
use Rattle.entry_model.specs.History.{IsLegal, by_place, put_in, precedes, place, pair_of, history, Regrouped, nothing, kept, swapped, twice}
use Rattle.entry_model.proofs.Sorted.{rises, flag, place_unchanged, place_same, legal_by_place}

-- the same list except for neighbors of one place that changed places
pub data Ties : List Receipt → List Receipt → Type 0 where
  none : Ties [] []
  same : (m : Receipt) {xs ys : List Receipt} → Ties xs ys → Ties (m ∷ xs) (m ∷ ys)
  tie : (m n : Receipt) (xs : List Receipt) → place m ≡ place n → Ties (m ∷ n ∷ xs) (n ∷ m ∷ xs)
  then : {xs ys zs : List Receipt} → Ties xs ys → Ties ys zs → Ties xs zs

self : (xs : List Receipt) → Ties xs xs
self [] = none
self (x ∷ xs) = same x (self xs)

-- ---- a legal history stays legal
tie_legal :
    (a b : State) (m n : Receipt) (xs : List Receipt)
    → place m ≡ place n
    → IsLegal a (m ∷ n ∷ xs) b
    → IsLegal a (n ∷ m ∷ xs) b
tie_legal a b m n xs level h = at (rises m) where
  at :
      (after_of m ≡ m.before) ⊎ (pair_of m.before < pair_of (after_of m)) → IsLegal a (n ∷ m ∷ xs) b
  at (inl still) =
      let first : after_of m ≡ a = still ∙ h.0 in
      let second : n.before ≡ a = h.1.0 ∙ first in
      let low : place m ≡ pair_of m.before * 2 = place_same m still in
      let equal : pair_of m.before ≡ pair_of n.before = ap pair_of (h.0 ∙ sym second) in
      let still' : after_of n ≡ n.before = place_unchanged n (omega arith) in
      let third : after_of n ≡ a = still' ∙ second in
      (second, (h.0 ∙ sym third, subst (λ s. IsLegal s xs b) (third ∙ sym first) h.1.1))
  at (inr more) =
      let equal : pair_of (after_of m) ≡ pair_of n.before = ap pair_of (sym h.1.0) in
      absurd (omega (arith, (flag m).1, (flag n).0))

pub ties_legal :
    {xs ys : List Receipt} → Ties xs ys → (a b : State) → IsLegal a xs b → IsLegal a ys b
ties_legal none a b h = h
ties_legal (same m t) a b h = (h.0, ties_legal t (after_of m) b h.1)
ties_legal (tie m n xs level) a b h = tie_legal a b m n xs level h
ties_legal (then s t) a b h = ties_legal t a b (ties_legal s a b h)

-- ---- the order of places
both_ways : (x y : Receipt) → precedes x y ≡ true → precedes y x ≡ true → place x ≡ place y
both_ways x y h k = grind (arith, nat_tests)

neither_way : (x y : Receipt) → precedes x y ≡ false → precedes y x ≡ false → place x ≡ place y
neither_way x y h k = grind (arith, nat_tests)

through : (x y z : Receipt) → precedes x y ≡ true → precedes y z ≡ true → precedes x z ≡ true
through x y z h k = grind (arith, nat_tests)

level_from :
    (x u v : Receipt)
    → place u ≡ place v
    → precedes x u ≡ true
    → precedes x v ≡ false
    → place x ≡ place u
level_from x u v e h k = grind (arith, nat_tests)

-- where a receipt goes in front, and where it goes on
pub put_front :
    (x y : Receipt) (ys : List Receipt) → precedes x y ≡ true → put_in x (y ∷ ys) ≡ x ∷ y ∷ ys
put_front x y ys h = rw h refl

put_on :
    (x y : Receipt) (ys : List Receipt) → precedes x y ≡ false → put_in x (y ∷ ys) ≡ y ∷ put_in x ys
put_on x y ys h = rw h refl

-- along equations
along : {xs ys xs' ys' : List Receipt} → xs ≡ xs' → ys ≡ ys' → Ties xs' ys' → Ties xs ys
along {xs} {ys} {xs'} {ys'} e f t =
    subst (λ l. Ties l ys) (sym e) (subst (λ l. Ties xs' l) (sym f) t)

-- ---- putting a receipt in keeps ties
put_tie :
    (x u v : Receipt) (zs : List Receipt)
    → place u ≡ place v
    → Ties (put_in x (u ∷ v ∷ zs)) (put_in x (v ∷ u ∷ zs))
put_tie x u v zs level = at (cases_Bool (precedes x u)) (cases_Bool (precedes x v)) where
  at :
      (precedes x u ≡ true) ⊎ (precedes x u ≡ false)
      → (precedes x v ≡ true) ⊎ (precedes x v ≡ false)
      → Ties (put_in x (u ∷ v ∷ zs)) (put_in x (v ∷ u ∷ zs))
  at (inl p) (inl q) =
      along (put_front x u (v ∷ zs) p) (put_front x v (u ∷ zs) q) (same x (tie u v zs level))
  at (inl p) (inr q) =
      along (put_front x u (v ∷ zs) p)
      (put_on x v (u ∷ zs) q ∙ ap (λ l. v ∷ l) (put_front x u zs p))
      (then (same x (tie u v zs level)) (tie x v (u ∷ zs) (level_from x u v level p q ∙ level)))
  at (inr p) (inl q) =
      along (put_on x u (v ∷ zs) p ∙ ap (λ l. u ∷ l) (put_front x v zs q))
      (put_front x v (u ∷ zs) q)
      (then (tie u x (v ∷ zs) (level ∙ sym (level_from x v u (sym level) q p)))
      (same x (tie u v zs level)))
  at (inr p) (inr q) =
      along (put_on x u (v ∷ zs) p ∙ ap (λ l. u ∷ l) (put_on x v zs q))
      (put_on x v (u ∷ zs) q ∙ ap (λ l. v ∷ l) (put_on x u zs p)) (tie u v (put_in x zs) level)

put_same_head :
    (x m : Receipt) (xs ys : List Receipt)
    → Ties xs ys
    → Ties (put_in x xs) (put_in x ys)
    → Ties (put_in x (m ∷ xs)) (put_in x (m ∷ ys))
put_same_head x m xs ys t rest = at (cases_Bool (precedes x m)) where
  at : (precedes x m ≡ true) ⊎ (precedes x m ≡ false) → Ties (put_in x (m ∷ xs)) (put_in x (m ∷ ys))
  at (inl p) = along (put_front x m xs p) (put_front x m ys p) (same x (same m t))
  at (inr p) = along (put_on x m xs p) (put_on x m ys p) (same m rest)

put_ties : (x : Receipt) {xs ys : List Receipt} → Ties xs ys → Ties (put_in x xs) (put_in x ys)
put_ties x none = self (x ∷ [])
put_ties x (same m t) = put_same_head x m _ _ t (put_ties x t)
put_ties x (tie m n xs level) = put_tie x m n xs level
put_ties x (then s t) = then (put_ties x s) (put_ties x t)

-- ---- two receipts put in, in either order
-- both in front of what is there
put_pair :
    (x y : Receipt) (zs : List Receipt)
    → put_in x zs ≡ x ∷ zs
    → put_in y zs ≡ y ∷ zs
    → Ties (put_in x (put_in y zs)) (put_in y (put_in x zs))
put_pair x y zs fx fy = at (cases_Bool (precedes x y)) (cases_Bool (precedes y x)) where
  left : put_in x (put_in y zs) ≡ put_in x (y ∷ zs)
  left = ap (put_in x) fy

  right : put_in y (put_in x zs) ≡ put_in y (x ∷ zs)
  right = ap (put_in y) fx

  at :
      (precedes x y ≡ true) ⊎ (precedes x y ≡ false)
      → (precedes y x ≡ true) ⊎ (precedes y x ≡ false)
      → Ties (put_in x (put_in y zs)) (put_in y (put_in x zs))
  at (inl p) (inl q) =
      along (left ∙ put_front x y zs p) (right ∙ put_front y x zs q)
      (tie x y zs (both_ways x y p q))
  at (inl p) (inr q) =
      along (left ∙ put_front x y zs p) (right ∙ put_on y x zs q ∙ ap (λ l. x ∷ l) fy)
      (self (x ∷ y ∷ zs))
  at (inr p) (inl q) =
      along (left ∙ put_on x y zs p ∙ ap (λ l. y ∷ l) fx) (right ∙ put_front y x zs q)
      (self (y ∷ x ∷ zs))
  at (inr p) (inr q) =
      along (left ∙ put_on x y zs p ∙ ap (λ l. y ∷ l) fx)
      (right ∙ put_on y x zs q ∙ ap (λ l. x ∷ l) fy) (tie y x zs (sym (neither_way x y p q)))

-- one in front of z and the other after it
put_apart :
    (x y z : Receipt) (zs : List Receipt)
    → precedes x z ≡ true
    → precedes y z ≡ false
    → (put_in x (put_in y (z ∷ zs)) ≡ x ∷ z ∷ put_in y zs)
    × (put_in y (put_in x (z ∷ zs)) ≡ x ∷ z ∷ put_in y zs)
put_apart x y z zs p q = (
  ap (put_in x) (put_on y z zs q) ∙ put_front x z (put_in y zs) p,
  ap (put_in y) (put_front x z zs p) ∙ at (cases_Bool (precedes y x)),
) where
  at : (precedes y x ≡ true) ⊎ (precedes y x ≡ false) → put_in y (x ∷ z ∷ zs) ≡ x ∷ z ∷ put_in y zs
  at (inl r) = let both : true ≡ false = sym (through y x z r p) ∙ q in cc
  at (inr r) = put_on y x (z ∷ zs) r ∙ ap (λ l. x ∷ l) (put_on y z zs q)

put_next :
    (x y z : Receipt) (zs : List Receipt)
    → Ties (put_in x (put_in y zs)) (put_in y (put_in x zs))
    → Ties (put_in x (put_in y (z ∷ zs))) (put_in y (put_in x (z ∷ zs)))
put_next x y z zs rest = at (cases_Bool (precedes x z)) (cases_Bool (precedes y z)) where
  at :
      (precedes x z ≡ true) ⊎ (precedes x z ≡ false)
      → (precedes y z ≡ true) ⊎ (precedes y z ≡ false)
      → Ties (put_in x (put_in y (z ∷ zs))) (put_in y (put_in x (z ∷ zs)))
  at (inl p) (inl q) = put_pair x y (z ∷ zs) (put_front x z zs p) (put_front y z zs q)
  at (inl p) (inr q) = let e = put_apart x y z zs p q in along e.0 e.1 (self (x ∷ z ∷ put_in y zs))
  at (inr p) (inl q) = let e = put_apart y x z zs q p in along e.1 e.0 (self (y ∷ z ∷ put_in x zs))
  at (inr p) (inr q) =
      along (ap (put_in x) (put_on y z zs q) ∙ put_on x z (put_in y zs) p)
      (ap (put_in y) (put_on x z zs p) ∙ put_on y z (put_in x zs) q) (same z rest)

put_commutes :
    (x y : Receipt) (zs : List Receipt) → Ties (put_in x (put_in y zs)) (put_in y (put_in x zs))
put_commutes x y [] = put_pair x y [] refl refl
put_commutes x y (z ∷ zs) = put_next x y z zs (put_commutes x y zs)

-- ---- listed in another order, and sorted by place
pub ties_by_place : {xs ys : List Receipt} → Regrouped xs ys → Ties (by_place xs) (by_place ys)
ties_by_place nothing = none
ties_by_place (kept m r) = put_ties m (ties_by_place r)
ties_by_place (swapped m n xs) = put_commutes m n (by_place xs)
ties_by_place (twice r s) = then (ties_by_place r) (ties_by_place s)

-- what is a chain in one order has a legal history in each
pub legal_regrouped :
    (a b : State) (xs ys : List Receipt)
    → Regrouped xs ys
    → IsLegal a xs b
    → IsLegal a (by_place ys) b
legal_regrouped a b xs ys r h = ties_legal (ties_by_place r) a b (legal_by_place a b xs h)

-- ---- sorting and choosing only regroup
pub regrouped_self : (xs : List Receipt) → Regrouped xs xs
regrouped_self [] = nothing
regrouped_self (x ∷ xs) = kept x (regrouped_self xs)

put_regroups : (x : Receipt) (ys : List Receipt) → Regrouped (x ∷ ys) (put_in x ys)
put_regroups x [] = regrouped_self (x ∷ [])
put_regroups x (y ∷ ys) =
    cond_both (precedes x y) (x ∷ y ∷ ys) (y ∷ put_in x ys) (Regrouped (x ∷ y ∷ ys))
    (λ e. regrouped_self (x ∷ y ∷ ys))
    (λ e. twice (swapped x y ys) (kept y (put_regroups x ys)))

pub sort_regroups : (xs : List Receipt) → Regrouped xs (by_place xs)
sort_regroups [] = nothing
sort_regroups (x ∷ xs) = twice (kept x (sort_regroups xs)) (put_regroups x (by_place xs))

pub regrouped_back : {xs ys : List Receipt} → Regrouped xs ys → Regrouped ys xs
regrouped_back nothing = nothing
regrouped_back (kept m r) = kept m (regrouped_back r)
regrouped_back (swapped m n xs) = swapped n m xs
regrouped_back (twice r s) = twice (regrouped_back s) (regrouped_back r)

pub regrouped_filter :
    (p : Receipt → Bool) {xs ys : List Receipt}
    → Regrouped xs ys
    → Regrouped (filter p xs) (filter p ys)
regrouped_filter p nothing = nothing
regrouped_filter p (kept m r) = filter_kept (p m) m (regrouped_filter p r) where
  filter_kept :
      (b : Bool) (m : Receipt) {us vs : List Receipt}
      → Regrouped us vs
      → Regrouped (cond b (m ∷ us) us) (cond b (m ∷ vs) vs)
  filter_kept true m r = kept m r
  filter_kept false m r = r
regrouped_filter p (swapped m n xs) = filter_swapped (p m) (p n) where
  filter_swapped :
      (b c : Bool)
      → Regrouped
      (cond b (m ∷ cond c (n ∷ filter p xs) (filter p xs))
      (cond c (n ∷ filter p xs) (filter p xs)))
      (cond c (n ∷ cond b (m ∷ filter p xs) (filter p xs))
      (cond b (m ∷ filter p xs) (filter p xs)))
  filter_swapped true true = swapped m n (filter p xs)
  filter_swapped true false = regrouped_self (m ∷ filter p xs)
  filter_swapped false true = regrouped_self (n ∷ filter p xs)
  filter_swapped false false = regrouped_self (filter p xs)
regrouped_filter p (twice r s) = twice (regrouped_filter p r) (regrouped_filter p s)

-- a history that is legal is so however the receipts are listed
pub history_regrouped :
    (e : ℕ) (a b : State) (xs ys : List Receipt)
    → Regrouped xs ys
    → IsLegal a (history e xs) b
    → IsLegal a (history e ys) b
history_regrouped e a b xs ys r h =
    legal_regrouped a b (history e xs) (filter (λ m. eqb m.entry e) ys)
    (twice (regrouped_back (sort_regroups (filter (λ m. eqb m.entry e) xs)))
    (regrouped_filter (λ m. eqb m.entry e) r)) h
