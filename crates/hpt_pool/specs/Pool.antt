-- A pool of memory as the list of its taken blocks: where a further block fits, and what taking and
-- giving change.
use Rattle.std.specs.Prelude.{◌≡◌, ◌<◌, ◌≤◌, ℕ, ◌+◌, ◌-◌, ◌*◌, ◌%◌, ◌^◌, ◌==◌, Bool, true, false, not, ◌&&◌, nat_lt, nat_le, List, [], ◌∷◌, ◌++◌, filter, find, map, All, AllPairs, Option, option_map}
use Rattle.std.specs.List.{list_any, range_with_len}
use Rattle.pool_range.specs.Ranges.{IsPoolRange, range_refusal, least_pool_order}
use Rattle.pool_range.specs.declared.range.RangeError.{RangeError}
use Rattle.pool_range.specs.declared.range.RangeError.TheVariants as range_errors
use Rattle.hpt_pool.specs.declared.error.PoolError.{PoolError}
use Rattle.hpt_pool.specs.declared.error.PoolError.TheVariants.{Order, Unaligned, Past}

-- A block of 2 ^ order bytes from place.
pub record Block : Type 0 where
  pub place : ℕ
  pub order : ℕ

-- The block of this order at this place.
abbrev pub block_at : ℕ → ℕ → Block
block_at place order = record { place = place; order = order }

-- The address after its last byte.
abbrev pub end_of : Block → ℕ
end_of block = block.place + 2 ^ block.order

-- A pool of 2 ^ order bytes from base, with its taken blocks in rising place.
pub record PoolState : Type 0 where
  pub base : ℕ
  pub order : ℕ
  pub taken : List Block

-- ---- a new pool
-- A pool of which nothing is taken.
abbrev pub no_blocks : ℕ → ℕ → PoolState
no_blocks base order = record { base = base; order = order; taken = [] }

-- The pool's word for what is wrong with a range.
abbrev pub pool_error : RangeError → PoolError
pool_error range_errors.Order = Order
pool_error range_errors.Unaligned = Unaligned
pool_error range_errors.Past = Past

-- What is wrong with a pool of 2 ^ order bytes from base, or none.
unfoldable pub pool_refusal : ℕ → ℕ → Option PoolError
pool_refusal base order = option_map pool_error (range_refusal base order)

-- ---- a further block
-- Each of the two begins below the end of the other: they share an address.
abbrev pub overlap : Block → Block → Bool
overlap block other = nat_lt block.place (end_of other) && nat_lt other.place (end_of block)

-- A block of this order at this place is aligned, lies in the pool, and overlaps no taken block.
abbrev pub fits : PoolState → ℕ → ℕ → Bool
fits pool_state order place =
    place % 2 ^ order == 0
    && nat_le pool_state.base place
    && nat_le (place + 2 ^ order) (pool_state.base + 2 ^ pool_state.order)
    && not (list_any (overlap (block_at place order)) pool_state.taken)

-- The places in the pool, in rising order, that are multiples of 2 ^ order: the pool begins at one,
-- and where the order is above the pool's, that is the only one.
unfoldable pub multiples : PoolState → ℕ → List ℕ
multiples pool_state order =
    map (λ n. pool_state.base + n * 2 ^ order) (range_with_len 0 (2 ^ (pool_state.order - order)))

-- The lowest place at which a block of this order fits, or none.
unfoldable pub lowest_place : PoolState → ℕ → Option ℕ
lowest_place pool_state order = find (fits pool_state order) (multiples pool_state order)

-- ---- the same as relations, which speak of every place
-- A block of this order fits at this place, and at no lower one.
pub record IsLowest (pool_state : PoolState) (order place : ℕ) : Type 0 where
  pub fitting : fits pool_state order place ≡ true
  pub lowest : (lower : ℕ) → lower < place → fits pool_state order lower ≡ false

-- A block of this order fits at no place.
abbrev pub FitsNowhere : PoolState → ℕ → Type 0
FitsNowhere pool_state order = (place : ℕ) → fits pool_state order place ≡ false

-- ---- the taken blocks after a call
-- The other begins below the block.
abbrev pub begins_below : Block → Block → Bool
begins_below block other = nat_lt other.place block.place

-- A further block stands after those that begin below it, and before the others.
unfoldable pub taken_with : List Block → Block → List Block
taken_with taken block =
    filter (begins_below block) taken ++ block
    ∷ filter (λ other. not (begins_below block other)) taken

-- All blocks but the one that begins at this place.
unfoldable pub taken_without : List Block → ℕ → List Block
taken_without taken place = filter (λ block. not (block.place == place)) taken

-- The pool with one more block taken.
abbrev pub with_block : PoolState → Block → PoolState
with_block pool_state block = record pool_state { taken = taken_with pool_state.taken block }

-- The pool with the block at this place given back.
abbrev pub without_block : PoolState → ℕ → PoolState
without_block pool_state place = record pool_state { taken = taken_without pool_state.taken place }

-- ---- what holds of a pool at all times
-- A block is aligned to its size and lies in the pool.
pub record IsPlaced (pool_state : PoolState) (block : Block) : Type 0 where
  pub at_least : least_pool_order ≤ block.order
  pub aligned : block.place % 2 ^ block.order ≡ 0
  pub from_base : pool_state.base ≤ block.place
  pub to_end : end_of block ≤ pool_state.base + 2 ^ pool_state.order

-- The taken blocks are placed so, rise, and no two overlap.
pub record AreApart (pool_state : PoolState) : Type 0 where
  pub placed : All (IsPlaced pool_state) pool_state.taken
  pub rising : AllPairs (λ (lower higher : Block). lower.place < higher.place) pool_state.taken
  pub apart : AllPairs (λ (lower higher : Block). overlap lower higher ≡ false) pool_state.taken

-- The pool lies in a range for page tables, and its blocks are placed in it.
pub record IsSound (pool_state : PoolState) : Type 0 where
  pub pool : IsPoolRange pool_state.base pool_state.order
  pub blocks : AreApart pool_state
