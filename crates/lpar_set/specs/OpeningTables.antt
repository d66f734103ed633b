-- Where the tables of several partitions open in one pool: each at the lowest place that those
-- before it left.
use Rattle.std.specs.Prelude.{◌≢◌, ℕ, List, [], ◌∷◌, None, unwrap_or}
use Rattle.hpt_pool.specs.Pool.{PoolState, block_at, lowest_place, with_block}

-- The lowest place for a table of 2 ^ order bytes; 0 where there is none.
abbrev pub opening_place : PoolState → ℕ → ℕ
opening_place pool order = unwrap_or (lowest_place pool order) 0

-- The pool after such a table took its block.
abbrev pub with_opening : PoolState → ℕ → PoolState
with_opening pool order = with_block pool (block_at (opening_place pool order) order)

-- The pool after tables of these orders took their blocks, one after the other.
abbrev pub with_openings : PoolState → List ℕ → PoolState
with_openings pool [] = pool
with_openings pool (order ∷ orders) = with_openings (with_opening pool order) orders

-- There is room for tables of these orders, one after the other.
abbrev pub HasRoomFor : PoolState → List ℕ → Type 0
HasRoomFor pool [] = Unit {0}
HasRoomFor pool (order ∷ orders) =
    (lowest_place pool order ≢ None) × HasRoomFor (with_opening pool order) orders
