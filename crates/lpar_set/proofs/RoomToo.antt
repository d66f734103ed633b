-- Where a pool that others share has room for a partition's next table, a pool that the partition
-- has to itself has room too.
use Rattle.std.proofs.Common.{◌≡◌, ◌≢◌, ℕ, ◌<◌, ◌≤◌, false, Contains, Option, Some, None, refl, sym, ◌∙◌, subst}
use Rattle.std.proofs.lemmas.List.Elements.{All-contains}
use Rattle.hpt_pool.specs.Pool.{Block, PoolState, IsPlaced, IsSound, block_at, overlap, lowest_place}
use Rattle.hpt_pool.proofs.Placing.{fits_in, overlap_turned}
use Rattle.hpt_resize.specs.Pending.{PendingTable}
use Rattle.hpt_resize.specs.Resize.{Table, pool_without}
use Rattle.hpt_resize.specs.TableMemory.{TableMemory}
use Rattle.hpt_resize.proofs.Holding.{dropped_keeps, lowest_fits}
use Rattle.partition.proofs.PoolKept.{dropped_pool}
use Rattle.lpar_set.proofs.BlocksApart.{AreHeld}
use Rattle.lpar_set.proofs.CallBlocks.{own_blocks, memory_blocks, holds_is}
use Rattle.lpar_set.proofs.LoneBlocks.{IsAlone, only_table}
use Rattle.lpar_set.proofs.MovedPrepare.{HasRoomToo}
use Rattle.lpar_set.proofs.RoomAlone.{smaller, room_beside}
use Rattle.hpte_fields.specs.TableSize.{least_order}
use Rattle.partition.specs.PartitionState.{block_of}

-- The current table's block is one of a sound pool's, also once the table that is being prepared
-- was dropped.
record IsLeft (table : Table) (pending : Option PendingTable) (pool : PoolState) : Type 0 where
  sound : IsSound (pool_without pending pool)
  taken : Contains (pool_without pending pool).taken (block_of table)
  placed : IsPlaced (pool_without pending pool) (block_of table)
  base : (pool_without pending pool).base ≡ pool.base
  order : (pool_without pending pool).order ≡ pool.order

is_left :
    (table : Table) (pending : Option PendingTable) (pool : PoolState)
    → IsSound pool
    → AreHeld pool.taken (own_blocks table pending)
    → IsLeft table pending pool
is_left table pending pool sound held =
    let holds = holds_is table pending pool held in
    let left = pool_without pending pool in
    let kept = dropped_pool pending pool in
    let stays = kept.sound sound in
    let here = dropped_keeps pending pool (block_of table) holds.taken holds.elsewhere in
    record {
      sound = stays;
      taken = here;
      placed = All-contains (IsPlaced left) left.taken (block_of table) stays.blocks.placed here;
      base = kept.base;
      order = kept.size;
    }

-- A table for which there is room beside another has a smaller order than the pool, and so has that
-- one.
record AreSmaller (order other whole : ℕ) : Type 0 where
  one : order < whole
  two : other < whole

found_smaller :
    (pool : PoolState) (order place : ℕ) (block : Block)
    → IsSound pool
    → least_order ≤ order
    → lowest_place pool order ≡ Some place
    → Contains pool.taken block
    → IsPlaced pool block
    → AreSmaller order block.order pool.order
found_smaller pool order place block sound large found here placed =
    let new = block_at place order in
    let fit = fits_in pool order place large (lowest_fits pool order place found) in
    let clear : overlap new block ≡ false = All-contains
    (λ (other : Block). overlap new other ≡ false) pool.taken block fit.apart here in
    record {
      one = smaller pool new block fit.placed placed clear;
      two = smaller pool block new placed fit.placed (overlap_turned new block clear);
    }

pub room_too :
    (memory alone : TableMemory)
    → IsSound memory.pool
    → AreHeld memory.pool.taken (memory_blocks memory)
    → IsAlone alone
    → alone.pool.order ≡ memory.pool.order
    → alone.table.order ≡ memory.table.order
    → HasRoomToo memory.pending memory.pool alone.pending alone.pool
room_too memory alone sound held lone order_same table_same order large room =
    at (lowest_place (pool_without memory.pending memory.pool) order) refl where
      at :
          (place : Option ℕ)
          → lowest_place (pool_without memory.pending memory.pool) order ≡ place
          → lowest_place (pool_without alone.pending alone.pool) order ≢ None
      at None none = absurd (room none)
      at (Some place) found =
          let left = is_left memory.table memory.pending memory.pool sound held in
          let left_too = is_left alone.table alone.pending alone.pool lone.pool lone.held in
          let pool = pool_without alone.pending alone.pool in
          let less = found_smaller (pool_without memory.pending memory.pool) order place
          (block_of memory.table) left.sound large found left.taken left.placed in
          let whole :
          (pool_without memory.pending memory.pool).order ≡ pool.order = left.order ∙ sym
          order_same ∙ sym left_too.order in
          let small : order < pool.order = subst (λ n. order < n) whole less.one in
          let small_table : alone.table.order < pool.order = subst (λ n. n < pool.order)
          (sym table_same) (subst (λ n. memory.table.order < n) whole less.two) in
          room_beside pool order (block_of alone.table) left_too.sound.pool large small small_table
          left_too.placed (only_table alone.table alone.pending alone.pool lone.only)
