-- A partition while no processor's call runs: its table memory, its grants, and what always holds
-- of them.
use Rattle.std.specs.Prelude.{◌≡◌, ◌≢◌, ◌+◌, ◌≤◌, ◌==◌, ◌||◌, IsTrue, [], length, Contains}
use Rattle.hpt_pool.specs.Pool.{Block, IsSound, block_at}
use Rattle.frame_grants.specs.Grants.{GrantedMemory}
use Rattle.trace_read.specs.Configuration.{Configuration}
use Rattle.entry_model.specs.Trial.{reply_by, plan_of_code}
use Rattle.entry_model.specs.declared.hreply.HReply.{HReply}
use Rattle.papr_codes.specs.declared.codes.Rc.{Rc}
use Rattle.papr_codes.specs.declared.codes.Rc.TheVariants.{Success}
use Rattle.hpte_fields.specs.TableSize.{entry_count, IsTableOrder}
use Rattle.hpt_resize.specs.Resize.{IsHeld, IsElsewhere, Table}
use Rattle.hpt_resize.specs.TableMemory.{TableMemory, opening_memory}

-- Its table memory, and the memory that is granted to the guest. While the states of the table's
-- entries are out, the table has none.
pub record PartitionState : Type 0 where
  pub memory : TableMemory
  pub granted : GrantedMemory

-- The table has a state for each of its entries.
abbrev pub HasStates : PartitionState → Type 0
HasStates partition =
    length partition.memory.table.states ≡ entry_count partition.memory.table.order

-- The states are out.
abbrev pub HasNoStates : PartitionState → Type 0
HasNoStates partition = partition.memory.table.states ≡ []

-- The partition with this table memory.
abbrev pub with_memory : PartitionState → TableMemory → PartitionState
with_memory partition memory = record partition { memory = memory }

-- ---- the beginning
-- A table of the configured order with the configured entries, which is the only one in the pool,
-- and the configured grants.
unfoldable pub opening_partition : Configuration → PartitionState
opening_partition config = record {
  memory
      =
      opening_memory
      config.limit
      config.order
      config.granted.pool_base
      config.granted.pool_order
      config.entries;
  granted = config.granted;
}

-- ---- the resize calls
-- A reply of this code alone: no word, and no receipt.
abbrev pub reply_of_code : Rc → HReply
reply_of_code rc = reply_by (plan_of_code rc) []

-- The table's number rises by one where the call succeeded, and else it stays; so it rises by one
-- at most.
pub record CountsTables (rc : Rc) (old new : PartitionState) : Type 0 where
  pub at_most : new.memory.table.number ≤ old.memory.table.number + 1
  pub rises : rc ≡ Success → new.memory.table.number ≡ old.memory.table.number + 1
  pub stays : rc ≢ Success → new.memory.table.number ≡ old.memory.table.number

-- ---- what holds at all times
-- The block of the pool that the table takes.
abbrev pub block_of : Table → Block
block_of table = block_at table.place table.order

-- Orders are those that a table can have. The pool is sound, and has the base and the order that
-- the granted memory has for it. The blocks of the current and of the pending table are taken in
-- it, and they are two.
pub record IsPartition (partition : PartitionState) : Type 0 where
  pub limit_fits : IsTableOrder partition.memory.limit
  pub order_fits : IsTableOrder partition.memory.table.order
  pub pool : IsSound partition.memory.pool
  pub base : partition.memory.pool.base ≡ partition.granted.pool_base
  pub size : partition.memory.pool.order ≡ partition.granted.pool_order
  pub held : IsHeld partition.memory.pending partition.memory.pool
  pub taken : Contains partition.memory.pool.taken (block_of partition.memory.table)
  pub elsewhere : IsElsewhere partition.memory.pending (block_of partition.memory.table)
  pub in_or_out :
      IsTrue
      ((length partition.memory.table.states == 0)
      || (length partition.memory.table.states == entry_count partition.memory.table.order))
