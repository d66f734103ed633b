-- Where in a tree's block a block of some order overlaps no taken one. A tree of this height has 2
-- ^ (18 + height) bytes from its place.
use Rattle.std.specs.Prelude.{◌≡◌, ◌<◌, ◌≤◌, ℕ, ◌+◌, ◌-◌, ◌*◌, ◌^◌, Bool, true, false, List}
use Rattle.std.specs.List.{list_any}
use Rattle.pool_range.specs.Ranges.{least_pool_order}
use Rattle.hpt_pool.specs.Pool.{Block, block_at, overlap}

-- A block of this order at this place overlaps a taken one.
abbrev pub is_met : List Block → ℕ → ℕ → Bool
is_met taken order place = list_any (overlap (block_at place order)) taken

-- It does at each place, from the tree's first on by steps of 2 ^ order.
abbrev pub MeetsAll : List Block → ℕ → ℕ → ℕ → Type 0
MeetsAll taken height place order =
    (k : ℕ)
    → k < 2 ^ (least_pool_order + height - order)
    → is_met taken order (place + k * 2 ^ order) ≡ true

-- At one of these places it doesn't.
pub record HasRoom (taken : List Block) (height place order : ℕ) : Type 0 where
  pub steps : ℕ
  pub below : steps < 2 ^ (least_pool_order + height - order)
  pub free : is_met taken order (place + steps * 2 ^ order) ≡ false

-- The answer is the first of these places at which it doesn't.
pub record IsFirstFree (taken : List Block) (height place order answer : ℕ) : Type 0 where
  pub steps : ℕ
  pub below : steps < 2 ^ (least_pool_order + height - order)
  pub is : answer ≡ place + steps * 2 ^ order
  pub free : is_met taken order answer ≡ false
  pub lower : (k : ℕ) → k < steps → is_met taken order (place + k * 2 ^ order) ≡ true

-- The largest order of a block that overlaps no taken one, or 0 where there is none.
pub record IsLargestFree (taken : List Block) (height place largest : ℕ) : Type 0 where
  pub none : largest < least_pool_order → largest ≡ 0
  pub most : largest ≤ least_pool_order + height
  pub free : least_pool_order ≤ largest → HasRoom taken height place largest
  pub full :
      (order : ℕ) → largest < order → least_pool_order ≤ order → order ≤ least_pool_order + height
      → MeetsAll taken height place order
