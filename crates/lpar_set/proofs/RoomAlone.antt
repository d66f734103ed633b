-- Where a pool has room for a second block beside a first, it has room for it wherever the first
-- one lies, if nothing else is taken.
use Rattle.std.specs.List.{list_any}
use Rattle.std.proofs.Common.{◌≡◌, ◌≢◌, ℕ, ◌+◌, ◌-◌, ◌*◌, ◌^◌, ◌<◌, ◌≤◌, true, false, not, List, All, get_or, length, None, refl, sym, ap, ◌∙◌, subst, add-mul, mul-le-mul_right, inl, inr, ◌⊎◌, arith}
use Rattle.std.proofs.lemmas.Bool.{cases_lt}
use Rattle.std.proofs.lemmas.Bool.Decides.{nat_tests}
use Rattle.std.proofs.lemmas.Nat.{pow_pos, pow_below}
use Rattle.std.proofs.lemmas.List.Folds.{list_any_none}
use Rattle.std.proofs.lemmas.List.FromFn.{length-map-range_with_len, get_or-map-range_with_len}
use Rattle.pool_range.specs.Ranges.{IsPoolRange}
use Rattle.basics.proofs.Lists.{find-None}
use Rattle.hpt_pool.specs.Pool.{Block, PoolState, IsPlaced, block_at, end_of, overlap, fits, multiples, lowest_place}
use Rattle.hpt_pool.proofs.Lowest.{multiple_placed, fits_is}
use Rattle.hpt_pool.proofs.Powers.{pow_split, pow_most, multiple_of_lower}
use Rattle.hpte_fields.specs.TableSize.{least_order}

-- ---- a place that fits
-- Where a multiple in the pool fits, there is a lowest place.
pub some_place :
    (pool : PoolState) (order n : ℕ)
    → n < 2 ^ (pool.order - order)
    → fits pool order (pool.base + n * 2 ^ order) ≡ true
    → lowest_place pool order ≢ None
unfolding lowest_place multiples
some_place pool order n below fit none =
    let count = 2 ^ (pool.order - order) in
    let all = find-None (fits pool order) (multiples pool order) none in
    let long : length (multiples pool order) ≡ count = length-map-range_with_len
    (λ m. pool.base + m * 2 ^ order) 0 count in
    let at_n : get_or (multiples pool order) n 0 ≡ pool.base + n * 2 ^ order =
    get_or-map-range_with_len (λ m. pool.base + m * 2 ^ order) 0 count n n 0 below (omega arith)
    in
    let fails : fits pool order (pool.base + n * 2 ^ order) ≡ false = subst
    (λ place. fits pool order place ≡ false) at_n (all n 0 (omega arith)) in
    absurd (cc)

-- Where no taken block overlaps a multiple, it fits.
pub clear_fits :
    (pool : PoolState) (order n : ℕ)
    → IsPoolRange pool.base pool.order
    → least_order ≤ order
    → order ≤ pool.order
    → n < 2 ^ (pool.order - order)
    → All (λ (other : Block). overlap (block_at (pool.base + n * 2 ^ order) order) other ≡ false)
    pool.taken
    → fits pool order (pool.base + n * 2 ^ order) ≡ true
clear_fits pool order n range large small below clear =
    let placed = multiple_placed pool order n range large small below in
    let none : list_any (overlap (block_at (pool.base + n * 2 ^ order) order)) pool.taken ≡ false =
    list_any_none (overlap (block_at (pool.base + n * 2 ^ order) order)) pool.taken clear in
    fits_is pool order (pool.base + n * 2 ^ order) placed ∙ ap not none

-- ---- halves of the pool
-- A block that shares no address with another one of the pool is smaller than the pool.
pub smaller :
    (pool : PoolState) (one other : Block)
    → IsPlaced pool one
    → IsPlaced pool other
    → overlap one other ≡ false
    → one.order < pool.order
smaller pool one other placed second clear = at (cases_lt one.order pool.order) where
  at : (one.order < pool.order) ⊎ (pool.order ≤ one.order) → one.order < pool.order
  at (inl less) = less
  at (inr more) =
      let size : 2 ^ pool.order ≤ 2 ^ one.order = pow_most pool.order one.order more in
      let some = pow_pos one.order in
      let some_other = pow_pos other.order in
      let low : pool.base ≤ one.place = placed.from_base in
      let high : one.place + 2 ^ one.order ≤ pool.base + 2 ^ pool.order = placed.to_end in
      let low_other : pool.base ≤ other.place = second.from_base in
      let high_other : other.place + 2 ^ other.order ≤ pool.base + 2 ^ pool.order = second.to_end in
      let no : ⊥ = grind (arith, nat_tests, clear) in
      absurd no

-- Two multiples of a size: the one with its size lies below the other, or it isn't below it.
size_apart : (p m size : ℕ) → (p * size + size ≤ m * size) ⊎ (m * size ≤ p * size)
size_apart p m size = at (cases_lt p m) where
  at : (p < m) ⊎ (m ≤ p) → (p * size + size ≤ m * size) ⊎ (m * size ≤ p * size)
  at (inl less) =
      let next : (p + 1) * size ≡ p * size + 1 * size = add-mul p 1 size in
      let rows : (p + 1) * size ≤ m * size = mul-le-mul_right size (omega arith) in
      inl (omega arith)
  at (inr more) = inr (mul-le-mul_right size more)

-- The size of half of the pool.
abbrev pub half_of : PoolState → ℕ
half_of pool = 2 ^ (pool.order - 1)

-- A block that is smaller than the pool lies in its lower half or in its upper one.
pub in_half :
    (pool : PoolState) (block : Block)
    → IsPoolRange pool.base pool.order
    → IsPlaced pool block
    → block.order < pool.order
    → (end_of block ≤ pool.base + half_of pool) ⊎ (pool.base + half_of pool ≤ block.place)
in_half pool block range placed small =
    let at_base = multiple_of_lower pool.base block.order pool.order (omega arith) range.aligned in
    let at_place = multiple_of_lower block.place block.order block.order (omega arith)
    placed.aligned in
    let half : 2 ^ (pool.order - 1) ≡ 2 ^ (pool.order - 1 - block.order) * 2 ^ block.order =
    pow_split block.order (pool.order - 1) (omega arith) in
    of_rows at_base.0 at_place.0 (2 ^ (pool.order - 1 - block.order)) (2 ^ block.order) at_base.1
    at_place.1 half refl where
      of_rows :
          (b p h size : ℕ)
          → pool.base ≡ b * size
          → block.place ≡ p * size
          → half_of pool ≡ h * size
          → 2 ^ block.order ≡ size
          → (end_of block ≤ pool.base + half_of pool) ⊎ (pool.base + half_of pool ≤ block.place)
      of_rows b p h size base_is place_is half_is size_is =
          let sum : (b + h) * size ≡ b * size + h * size = grind arith in
          at sum (size_apart p (b + h) size) where
            at :
                (b + h) * size ≡ b * size + h * size
                → (p * size + size ≤ (b + h) * size) ⊎ ((b + h) * size ≤ p * size)
                → (end_of block ≤ pool.base + half_of pool)
                ⊎ (pool.base + half_of pool ≤ block.place)
            at sum (inl low) = inl (omega arith)
            at sum (inr high) = inr (omega arith)

-- ---- room in the other half
-- Nothing is taken but this block.
abbrev pub AllAre : Block → List Block → Type 0
AllAre block taken = All (λ (other : Block). other ≡ block) taken

all_clear :
    (block only : Block) (taken : List Block)
    → overlap block only ≡ false
    → AllAre only taken
    → All (λ (other : Block). overlap block other ≡ false) taken
all_clear block only taken clear all =
    λ k d inside.
    subst (λ (other : Block). overlap block other ≡ false) (sym (all k d inside)) clear

pub room_beside :
    (pool : PoolState) (order : ℕ) (only : Block)
    → IsPoolRange pool.base pool.order
    → least_order ≤ order
    → order < pool.order
    → only.order < pool.order
    → IsPlaced pool only
    → AllAre only pool.taken
    → lowest_place pool order ≢ None
room_beside pool order only range large small small_only placed all =
    at (in_half pool only range placed small_only) where
      half : 2 ^ (pool.order - 1) ≡ 2 ^ (pool.order - 1 - order) * 2 ^ order
      half = pow_split order (pool.order - 1) (omega arith)

      in_pool : 2 ^ (pool.order - 1 - order) < 2 ^ (pool.order - order)
      in_pool = pow_below (pool.order - 1 - order) (pool.order - order) (omega arith)

      fits_under : 2 ^ order ≤ 2 ^ (pool.order - 1)
      fits_under = pow_most order (pool.order - 1) (omega arith)

      at :
          (end_of only ≤ pool.base + half_of pool) ⊎ (pool.base + half_of pool ≤ only.place)
          → lowest_place pool order ≢ None
      at (inl low) =
          let n = 2 ^ (pool.order - 1 - order) in
          let place : pool.base + n * 2 ^ order ≡ pool.base + half_of pool = ap (λ m. pool.base + m)
          (sym half) in
          let clear :
          overlap (block_at (pool.base + n * 2 ^ order) order) only ≡ false = upper_clear n
          place low in
          some_place pool order n in_pool
          (clear_fits pool order n range large (omega arith) in_pool
          (all_clear _ only pool.taken clear all)) where
            upper_clear :
                (n : ℕ)
                → pool.base + n * 2 ^ order ≡ pool.base + half_of pool
                → end_of only ≤ pool.base + half_of pool
                → overlap (block_at (pool.base + n * 2 ^ order) order) only ≡ false
            upper_clear n place low =
                let ends : end_of only ≤ pool.base + n * 2 ^ order = omega arith in
                above (pool.base + n * 2 ^ order) ends where
                  above :
                      (start : ℕ)
                      → end_of only ≤ start
                      → overlap (block_at start order) only ≡ false
                  above start ends = grind (arith, nat_tests, ends)
      at (inr high) =
          let under = fits_under in
          let some : 0 < 2 ^ (pool.order - order) = pow_pos (pool.order - order) in
          let zero_place : pool.base + 0 * 2 ^ order ≡ pool.base = omega arith in
          let ends : pool.base + 0 * 2 ^ order + 2 ^ order ≤ only.place = omega arith in
          let clear : overlap (block_at (pool.base + 0 * 2 ^ order) order) only ≡ false = below
          (pool.base + 0 * 2 ^ order) ends in
          some_place pool order 0 some
          (clear_fits pool order 0 range large (omega arith) some
          (all_clear _ only pool.taken clear all)) where
            below :
                (start : ℕ)
                → start + 2 ^ order ≤ only.place
                → overlap (block_at start order) only ≡ false
            below start ends = grind (arith, nat_tests, ends)
