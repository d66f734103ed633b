-- Places that are filled one after the other from the first on.
use Rattle.std.proofs.Common.{◌≡◌, ℕ, zero, suc, ◌+◌, ◌<◌, ◌≤◌, List, [], ◌∷◌, ◌++◌, length, take, drop, set, get_or, min, refl, ap, sym, ◌∙◌, ◌⊎◌, inl, inr, arith, add-zero}
use Rattle.std.proofs.lemmas.List.{take_all, drop_all, length-take-le, take_more}
use Rattle.std.proofs.Math.Numerals.{add-one}
use Rattle.std.proofs.lemmas.Bool.{cases_lt}
use Rattle.c_layout.specs.Slots.{filled, placed}

-- One more slot: the next item.
fill_next :
    {X : Type 0} (items old : List X) (i : ℕ) (d : X)
    → i < length items
    → i < length old
    → set (take i items ++ drop i old) i (get_or items i d) ≡ take (suc i) items ++ drop (suc i) old
fill_next [] old i d below inside = absurd (omega (arith, below))
fill_next (x ∷ items) [] i d below inside = absurd (omega (arith, inside))
fill_next (x ∷ items) (o ∷ old) zero d below inside = refl
fill_next (x ∷ items) (o ∷ old) (suc i) d below inside =
    ap (λ rest. x ∷ rest) (fill_next items old i d (omega (arith, below)) (omega (arith, inside)))

pub fill_more :
    {X : Type 0} (items old now : List X) (i : ℕ) (d x : X)
    → i < length items
    → i < length old
    → now ≡ take i items ++ drop i old
    → x ≡ get_or items i d
    → set now i x ≡ take (i + 1) items ++ drop (i + 1) old
fill_more items old now i d x below inside is read =
    rw (is, read, add-one) (fill_next items old i d below inside)

-- When as many items are put as there are and as there is room for, the list is filled.
pub fill_whole :
    {X : Type 0} (items old : List X) (i : ℕ)
    → i ≡ min (length items) (length old)
    → take i items ++ drop i old ≡ filled old items
fill_whole items old i all = at (cases_lt (length items) (length old)) where
  at :
      (length items < length old) ⊎ (length old ≤ length items)
      → take i items ++ drop i old ≡ filled old items
  at (inl fits) =
      let i_is : i ≡ length items = omega (arith, all) in
      let whole : take (length old) items ≡ items = take_all (length old) items (omega arith) in
      let same : take (length items) items ≡ items = take_all (length items) items (omega arith) in
      rw (i_is, whole, same) refl
  at (inr short) =
      let i_is : i ≡ length old = omega (arith, all) in
      let none : drop (length items) old ≡ [] = drop_all (length items) old short in
      let gone : drop (length old) old ≡ [] = drop_all (length old) old (omega arith) in
      rw (i_is, none, gone) refl

-- ---- the same, put one after the other
-- More items are put after the first ones.
pub placed-append :
    {X : Type 0} (xs ys old : List X) (i : ℕ)
    → placed old i (xs ++ ys) ≡ placed (placed old i xs) (i + length xs) ys
placed-append [] ys old i = rw add-zero refl
placed-append (x ∷ xs) ys old i =
    let next : (i + 1) + length xs ≡ i + length (x ∷ xs) = omega arith in
    placed-append xs ys (set old i x) (i + 1)
    ∙ ap (λ k. placed (placed (set old i x) (i + 1) xs) k ys) next

placed-shift :
    {X : Type 0} (items old : List X) (o : X) (i : ℕ)
    → placed (o ∷ old) (suc i) items ≡ o ∷ placed old i items
placed-shift [] old o i = refl
placed-shift (x ∷ items) old o i =
    let next : suc i + 1 ≡ suc (i + 1) = omega arith in
    ap (λ k. placed (o ∷ set old i x) k items) next ∙ placed-shift items (set old i x) o (i + 1)

placed-none : {X : Type 0} (items : List X) (i : ℕ) → placed [] i items ≡ []
placed-none [] i = refl
placed-none (x ∷ items) i = placed-none items (i + 1)

pub filled-nil : {X : Type 0} (old : List X) → filled old [] ≡ old
filled-nil [] = refl
filled-nil (o ∷ old) = refl

pub placed_filled : {X : Type 0} (items old : List X) → placed old 0 items ≡ filled old items
placed_filled [] old = sym (filled-nil old)
placed_filled (x ∷ items) [] = placed-none items 1
placed_filled (x ∷ items) (o ∷ old) =
    placed-shift items old x 0 ∙ ap (λ rest. x ∷ rest) (placed_filled items old)

-- After the items that are put, the old ones stand.
pub get_rest :
    {X : Type 0} (items old : List X) (i : ℕ) (d : X)
    → i < length items
    → i < length old
    → get_or (take i items ++ drop i old) i d ≡ get_or old i d
get_rest [] old i d inside below = absurd (omega (arith, inside))
get_rest (x ∷ items) [] i d inside below = absurd (omega (arith, below))
get_rest (x ∷ items) (o ∷ old) zero d inside below = refl
get_rest (x ∷ items) (o ∷ old) (suc i) d inside below =
    get_rest items old i d (omega (arith, inside)) (omega (arith, below))

-- One more item of a list.
pub put_item :
    {X : Type 0} (items old now : List X) (i : ℕ) (d x : X)
    → i < length items
    → now ≡ placed old 0 (take i items)
    → x ≡ get_or items i d
    → set now i x ≡ placed old 0 (take (i + 1) items)
put_item items old now i d x below is read =
    let few : i ≤ length items = omega (arith, below) in
    let at : 0 + length (take i items) ≡ i = omega (arith, length-take-le i items few) in
    sym
    (ap (placed old 0) (take_more items i d below)
    ∙ placed-append (take i items) (get_or items i d ∷ []) old 0
    ∙ (λ k. set (sym is k) (at k) (sym read k)))

-- When all items are put the list is filled.
pub put_all :
    {X : Type 0} (items old : List X) (i : ℕ)
    → length items ≤ i
    → placed old 0 (take i items) ≡ filled old items
put_all items old i all = ap (placed old 0) (take_all i items all) ∙ placed_filled items old
