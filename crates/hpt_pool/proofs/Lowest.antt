-- The lowest place that fits: the first among the multiples, as each place that fits is one of
-- them.
use Rattle.std.proofs.Common.{◌≡◌, ℕ, ◌+◌, ◌-◌, ◌*◌, ◌%◌, ◌^◌, ◌<◌, ◌≤◌, ◌&&◌, ◌==◌, nat_le, get_or, Bool, true, false, not, length, Some, None, refl, ap, ◌∙◌, subst, inl, inr, ◌⊎◌, arith}
use Rattle.std.specs.List.{list_any}
use Rattle.std.proofs.lemmas.Bool.{cases_Bool, and_parts}
use Rattle.std.proofs.lemmas.Bool.Decides.{nat_tests}
use Rattle.std.proofs.lemmas.Nat.{pow_pos, pow_below, mod-mul-add}
use Rattle.std.proofs.lemmas.List.FromFn.{length-map-range_with_len, get_or-map-range_with_len}
use Rattle.hpt_pool.specs.Pool.{PoolState, block_at, overlap, fits, multiples, lowest_place, IsLowest, FitsNowhere, IsPlaced}
use Rattle.pool_range.specs.Ranges.{IsPoolRange}
use Rattle.hpt_pool.proofs.Lists.{find_none, find_first}
use Rattle.hpt_pool.proofs.Powers.{pow_split, multiple_of_lower}

-- ---- a multiple in the pool
pub multiple_placed :
    (pool_state : PoolState) (order n : ℕ)
    → IsPoolRange pool_state.base pool_state.order
    → 18 ≤ order
    → order ≤ pool_state.order
    → n < 2 ^ (pool_state.order - order)
    → IsPlaced pool_state (block_at (pool_state.base + n * 2 ^ order) order)
multiple_placed pool_state order n pool large small below =
    let at_base = multiple_of_lower pool_state.base order pool_state.order small pool.aligned in
    let whole : 2 ^ pool_state.order ≡ 2 ^ (pool_state.order - order) * 2 ^ order = pow_split order
    pool_state.order small in
    record {
      at_least = large;
      aligned = aligned at_base.0 (2 ^ order) pool_state.base at_base.1 (pow_pos order);
      from_base = omega arith;
      to_end =
          fits_below n (2 ^ (pool_state.order - order)) (2 ^ order) (2 ^ pool_state.order)
          pool_state.base whole below;
    } where
      aligned : (q size base : ℕ) → base ≡ q * size → 0 < size → (base + n * size) % size ≡ 0
      aligned q size base is some =
          let as_row : base + n * size ≡ (q + n) * size + 0 = grind arith in
          ap (λ m. m % size) as_row ∙ mod-mul-add (q + n) size 0 some

      fits_below :
          (k count size whole base : ℕ)
          → whole ≡ count * size
          → k < count
          → base + k * size + size ≤ base + whole
      fits_below k count size whole base is lower =
          let rows : (k + 1) * size ≤ count * size = grind arith in
          let next : (k + 1) * size ≡ k * size + size = grind arith in
          omega arith

lies : PoolState → ℕ → ℕ → Bool
lies pool_state order place =
    place % 2 ^ order == 0 && nat_le pool_state.base place && nat_le (place + 2 ^ order)
    (pool_state.base + 2 ^ pool_state.order)

-- For a block that is placed, whether it fits is whether it overlaps no taken one.
pub fits_is :
    (pool_state : PoolState) (order place : ℕ)
    → IsPlaced pool_state (block_at place order)
    → fits pool_state order place ≡ not (list_any (overlap (block_at place order)) pool_state.taken)
unfolding lies
fits_is pool_state order place placed =
    let aligned = placed.aligned in
    let low = placed.from_base in
    let high : place + 2 ^ order ≤ pool_state.base + 2 ^ pool_state.order = placed.to_end in
    let yes : lies pool_state order place ≡ true = grind (arith, nat_tests, aligned, low, high) in
    ap (λ b. b && not (list_any (overlap (block_at place order)) pool_state.taken)) yes

-- Each place that fits is a multiple in the pool.
record IsMultiple (pool_state : PoolState) (order place : ℕ) : Type 0 where
  n : ℕ
  below : n < 2 ^ (pool_state.order - order)
  is : place ≡ pool_state.base + n * 2 ^ order

fitting_multiple :
    (pool_state : PoolState) (order place : ℕ)
    → IsPoolRange pool_state.base pool_state.order
    → order ≤ pool_state.order
    → fits pool_state order place ≡ true
    → IsMultiple pool_state order place
unfolding lies
fitting_multiple pool_state order place pool small fit =
    let free : Bool = not (list_any (overlap (block_at place order)) pool_state.taken) in
    let whole : lies pool_state order place ≡ true =
    (and_parts (lies pool_state order place) free fit).0 in
    let aligned : place % 2 ^ order ≡ 0 = grind (arith, nat_tests, whole) in
    let low : pool_state.base ≤ place = grind (arith, nat_tests, whole) in
    let high : place + 2 ^ order ≤ pool_state.base + 2 ^ pool_state.order = grind
    (arith, nat_tests, whole) in
    let at_base = multiple_of_lower pool_state.base order pool_state.order small pool.aligned in
    let at_place = multiple_of_lower place order order (omega arith) aligned in
    of_rows at_base.0 at_place.0 (2 ^ order) at_base.1 at_place.1 low high
    (pow_split order pool_state.order small) (pow_pos order) refl where
      of_rows :
          (b p size : ℕ)
          → pool_state.base ≡ b * size
          → place ≡ p * size
          → pool_state.base ≤ place
          → place + size ≤ pool_state.base + 2 ^ pool_state.order
          → 2 ^ pool_state.order ≡ 2 ^ (pool_state.order - order) * size
          → 0 < size
          → size ≡ 2 ^ order
          → IsMultiple pool_state order place
      of_rows b p size base_is place_is low high whole some size_is =
          let above : b ≤ p = at_most b p size some (omega arith) in
          let below : p + 1 ≤ b + 2 ^ (pool_state.order - order) = at_most (p + 1)
          (b + 2 ^ (pool_state.order - order)) size some (grind arith) in
          let parts : b * size + (p - b) * size ≡ p * size = let e : b + (p - b) ≡ p = omega arith
          in
          grind arith in
          record {
            n = p - b;
            below = omega arith;
            is = subst (λ s. place ≡ pool_state.base + (p - b) * s) size_is (omega arith);
          } where
            at_most : (x y s : ℕ) → 0 < s → x * s ≤ y * s → x ≤ y
            at_most x y s positive under = grind arith

-- A larger block than the pool fits nowhere.
pub too_large :
    (pool_state : PoolState) (order : ℕ) → pool_state.order < order → FitsNowhere pool_state order
unfolding lies
too_large pool_state order large place = at (cases_Bool (fits pool_state order place)) where
  at :
      (fits pool_state order place ≡ true) ⊎ (fits pool_state order place ≡ false)
      → fits pool_state order place ≡ false
  at (inr fails) = fails
  at (inl fit) =
      let free : Bool = not (list_any (overlap (block_at place order)) pool_state.taken) in
      let whole : lies pool_state order place ≡ true =
      (and_parts (lies pool_state order place) free fit).0 in
      let low : pool_state.base ≤ place = grind (arith, nat_tests, whole) in
      let high : place + 2 ^ order ≤ pool_state.base + 2 ^ pool_state.order = grind
      (arith, nat_tests, whole) in
      let larger : 2 ^ pool_state.order < 2 ^ order = pow_below pool_state.order order large in
      absurd (omega arith)

-- ---- the answers
pub lowest_none :
    (pool_state : PoolState) (order : ℕ)
    → FitsNowhere pool_state order
    → lowest_place pool_state order ≡ None
unfolding lowest_place
lowest_none pool_state order nowhere =
    find_none (fits pool_state order) (multiples pool_state order)
    (λ k d inside. nowhere (get_or (multiples pool_state order) k d))

pub lowest_some :
    (pool_state : PoolState) (order n : ℕ)
    → n < 2 ^ (pool_state.order - order)
    → ((k : ℕ) → k < n → fits pool_state order (pool_state.base + k * 2 ^ order) ≡ false)
    → fits pool_state order (pool_state.base + n * 2 ^ order) ≡ true
    → lowest_place pool_state order ≡ Some (pool_state.base + n * 2 ^ order)
unfolding lowest_place multiples
lowest_some pool_state order n below lower fit =
    let count = 2 ^ (pool_state.order - order) in
    let at_ : (k : ℕ) → k < count → get_or (multiples pool_state order) k 0 ≡ pool_state.base + k *
    2 ^ order = λ k inside. get_or-map-range_with_len (λ m. pool_state.base + m * 2 ^ order) 0
    count k k 0 inside (omega arith) in
    let long : length (multiples pool_state order) ≡ count = length-map-range_with_len
    (λ m. pool_state.base + m * 2 ^ order) 0 count in
    find_first (fits pool_state order) (multiples pool_state order) n 0 (omega arith)
    (λ k before. ap (fits pool_state order) (at_ k (omega arith)) ∙ lower k before)
    (ap (fits pool_state order) (at_ n below) ∙ fit)
    ∙ ap Some (at_ n below)

pub is_lowest :
    (pool_state : PoolState) (order n : ℕ)
    → IsPoolRange pool_state.base pool_state.order
    → order ≤ pool_state.order
    → ((k : ℕ) → k < n → fits pool_state order (pool_state.base + k * 2 ^ order) ≡ false)
    → fits pool_state order (pool_state.base + n * 2 ^ order) ≡ true
    → IsLowest pool_state order (pool_state.base + n * 2 ^ order)
is_lowest pool_state order n pool small lower fit =
    record {
      fitting = fit;
      lowest = λ place before. at place before (cases_Bool (fits pool_state order place));
    } where
      at :
          (place : ℕ)
          → place < pool_state.base + n * 2 ^ order
          → (fits pool_state order place ≡ true) ⊎ (fits pool_state order place ≡ false)
          → fits pool_state order place ≡ false
      at place before (inr fails) = fails
      at place before (inl fitting) =
          let m = fitting_multiple pool_state order place pool small fitting in
          let is : place ≡ pool_state.base + m.n * 2 ^ order = m.is in
          let under : m.n < n = below m.n n (2 ^ order) (omega arith) in
          ap (fits pool_state order) is ∙ lower m.n under where
            below : (x y s : ℕ) → x * s < y * s → x < y
            below x y s under = grind arith

pub fits_nowhere :
    (pool_state : PoolState) (order : ℕ)
    → IsPoolRange pool_state.base pool_state.order
    → order ≤ pool_state.order
    →
    ((k : ℕ)
    → k < 2 ^ (pool_state.order - order)
    → fits pool_state order (pool_state.base + k * 2 ^ order) ≡ false)
    → FitsNowhere pool_state order
fits_nowhere pool_state order pool small all place =
    at (cases_Bool (fits pool_state order place)) where
      at :
          (fits pool_state order place ≡ true) ⊎ (fits pool_state order place ≡ false)
          → fits pool_state order place ≡ false
      at (inr fails) = fails
      at (inl fitting) =
          let m = fitting_multiple pool_state order place pool small fitting in
          ap (fits pool_state order) m.is ∙ all m.n m.below
