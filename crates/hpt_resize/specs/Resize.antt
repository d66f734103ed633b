-- The two resize calls: what they answer, and the pending table, the pool and the current table
-- after them. Each tries its rules in the order in which its definition lists them.
use Rattle.std.specs.Prelude.{◌≡◌, ◌≢◌, ℕ, ◌+◌, ◌==◌, ◌&&◌, ◌||◌, not, Bool, false, nat_lt, nat_le, if◌then◌else◌, List, length, Contains, Option, Some, None}
use Rattle.hpt_pool.specs.Pool.{Block, PoolState, block_at, lowest_place, with_block, without_block}
use Rattle.entry_model.specs.State.{State}
use Rattle.papr_codes.specs.declared.codes.Rc.{Rc}
use Rattle.papr_codes.specs.declared.codes.Rc.TheVariants.{Success, Busy, Closed, LongBusy, Parameter, PtegFull, NoMem, Resource}
use Rattle.hpt_resize.specs.declared.carry.Collision.{Collision}
use Rattle.hpt_resize.specs.declared.current.Current.{Current}
use Rattle.hpt_resize.specs.declared.current.CommitAnswer.{CommitAnswer}
use Rattle.hpt_resize.specs.Rehash.{collision_of, rehashed_states}
use Rattle.hpte_fields.specs.TableSize.{IsTableOrder, entry_count, is_architected_order}
use Rattle.hpt_resize.specs.Pending.{PendingTable, no_entries, is_ready, with_more_ready}

-- The block of a pending table is taken in the pool.
abbrev pub IsHeld : Option PendingTable → PoolState → Type 0
IsHeld None pool = Unit {0}
IsHeld (Some table) pool = Contains pool.taken (block_at table.place table.order)

-- ---- prepare
-- What the call answers, and the pending table and the pool after it.
pub record PrepareOutcome : Type 0 where
  pub rc : Rc
  pub pending : Option PendingTable
  pub pool : PoolState

-- The outcome with these parts.
abbrev pub prepare_outcome : Rc → Option PendingTable → PoolState → PrepareOutcome
prepare_outcome rc pending pool = record { rc = rc; pending = pending; pool = pool }

-- No flag is known, and the order is 0 or one that the architecture has.
abbrev pub is_prepare_request : ℕ → ℕ → Bool
is_prepare_request flags shift = flags == 0 && (shift == 0 || is_architected_order shift)

-- The pool after the pending table is dropped: its block is given back.
abbrev pub pool_without : Option PendingTable → PoolState → PoolState
pool_without None pool = pool
pool_without (Some table) pool = without_block pool table.place

-- A table of this order is pending.
abbrev pub is_pending : ℕ → Option PendingTable → Bool
is_pending order None = false
is_pending order (Some table) = table.order == order

-- A table at the place that the pool has, or none.
abbrev pub new_table_outcome : ℕ → PoolState → Option ℕ → PrepareOutcome
new_table_outcome order pool None = prepare_outcome NoMem None pool
new_table_outcome order pool (Some place) =
    prepare_outcome Success (Some (no_entries order place)) (with_block pool (block_at place order))

-- A pending table of another order is dropped, and where none is left a new one is made.
abbrev pub start_outcome : ℕ → Option PendingTable → PoolState → PrepareOutcome
start_outcome order pending pool =
    if is_pending order pending
    then prepare_outcome Success pending pool
    else
    new_table_outcome
    order
    (pool_without pending pool)
    (lowest_place (pool_without pending pool) order)

-- Further entries of the pending table are made ready.
abbrev pub advance_outcome : PrepareOutcome → Option PendingTable → PrepareOutcome
advance_outcome start None = start
advance_outcome start (Some table) =
    prepare_outcome
    (if is_ready (with_more_ready table) then Success else LongBusy)
    (Some (with_more_ready table))
    start.pool

-- A new table is to be made: only then can the call run out of memory.
abbrev pub needs_table : ℕ → ℕ → ℕ → Option PendingTable → Bool
needs_table limit flags shift pending =
    is_prepare_request flags shift
    && nat_le shift limit
    && not (shift == 0)
    && not (is_pending shift pending)

-- H_RESIZE_HPT_PREPARE with these flags and this order, of which `limit` is the highest.
unfoldable pub outcome_of_prepare : ℕ → ℕ → ℕ → Option PendingTable → PoolState → PrepareOutcome
outcome_of_prepare limit flags shift pending pool =
    if not (is_prepare_request flags shift)
    then prepare_outcome Parameter pending pool
    else (if nat_lt limit shift
    then prepare_outcome Resource pending pool
    else
    (if shift == 0
    then prepare_outcome Success None (pool_without pending pool)
    else
    advance_outcome
    (start_outcome shift pending pool)
    (start_outcome shift pending pool).pending)
    )

-- ---- the blocks
-- The pending table, if there is one, begins elsewhere.
abbrev pub IsElsewhere : Option PendingTable → Block → Type 0
IsElsewhere None block = Unit {0}
IsElsewhere (Some table) block = table.place ≢ block.place

-- After the call the block of the pending table is taken, and each other block that was taken is
-- still taken and another one than that.
abbrev pub KeepsBlocks : Option PendingTable → PoolState → Option PendingTable → PoolState → Type 0
KeepsBlocks pending pool pending_after pool_after =
    (block : Block)
    → Contains pool.taken block
    → IsElsewhere pending block
    → Contains pool_after.taken block × IsElsewhere pending_after block

-- ---- commit
-- The current table.
pub record Table : Type 0 where
  pub order : ℕ
  pub place : ℕ
  pub number : ℕ
  pub states : List State

-- The table as contracts see it.
abbrev pub table_of : Current → Table
table_of current = record {
  order = current.order;
  place = current.place;
  number = current.number;
  states = current.states.items;
}

-- It has one of the orders that the project allows, and an entry at each index.
pub record IsTable (current : Current) : Type 0 where
  pub order_fits : IsTableOrder current.order
  pub whole : length current.states.items ≡ entry_count current.order

-- What the call answers, and the pending table, the pool and the current table after it.
pub record CommitOutcome : Type 0 where
  pub rc : Rc
  pub collision : Option Collision
  pub pending : Option PendingTable
  pub pool : PoolState
  pub table : Table

-- The outcome with these parts.
abbrev pub commit_outcome : CommitAnswer → Option PendingTable → PoolState → Table → CommitOutcome
commit_outcome answer pending pool table = record {
  rc = answer.rc;
  collision = answer.collision;
  pending = pending;
  pool = pool;
  table = table;
}

-- No flag is known, and the order is one that the architecture has.
abbrev pub is_commit_request : ℕ → ℕ → Bool
is_commit_request flags shift = flags == 0 && is_architected_order shift

-- The code where nothing is tried.
abbrev pub pending_refusal : ℕ → Option PendingTable → Option Rc
pending_refusal shift None = Some Closed
pending_refusal shift (Some table) =
    if not (table.order == shift) then Some Closed else (if is_ready table then None else Some Busy)

-- The code where the commit is refused: H_PARAMETER first, then what the pending table lacks.
abbrev pub commit_refusal : ℕ → ℕ → Option PendingTable → Option Rc
commit_refusal flags shift pending =
    if is_commit_request flags shift then pending_refusal shift pending else Some Parameter

-- After a collision the pending table is dropped. Without one it is the current table, of the next
-- number, and the old block is given back.
abbrev pub carry_outcome : PendingTable → PoolState → Table → Option Collision → CommitOutcome
carry_outcome pending pool table (Some collision) = record {
  rc = PtegFull;
  collision = Some collision;
  pending = None;
  pool = without_block pool pending.place;
  table = table;
}
carry_outcome pending pool table None = record {
  rc = Success;
  collision = None;
  pending = None;
  pool = without_block pool table.place;
  table
      =
      record {
        order = pending.order;
        place = pending.place;
        number = table.number + 1;
        states = rehashed_states table.order pending.order table.states;
      };
}

-- Nothing refuses the commit: the pending table takes the place of the current one.
abbrev pub complete_outcome : Option PendingTable → PoolState → Table → CommitOutcome
complete_outcome None pool table = record {
  rc = Closed;
  collision = None;
  pending = None;
  pool = pool;
  table = table;
}
complete_outcome (Some pending) pool table =
    carry_outcome pending pool table (collision_of table.order pending.order table.states)

-- A refusal changes nothing.
abbrev pub answer_outcome : Option Rc → Option PendingTable → PoolState → Table → CommitOutcome
answer_outcome (Some rc) pending pool table = record {
  rc = rc;
  collision = None;
  pending = pending;
  pool = pool;
  table = table;
}
answer_outcome None pending pool table = complete_outcome pending pool table

-- H_RESIZE_HPT_COMMIT with these flags and this order.
unfoldable pub outcome_of_commit : ℕ → ℕ → Option PendingTable → PoolState → Table → CommitOutcome
outcome_of_commit flags shift pending pool table =
    answer_outcome (commit_refusal flags shift pending) pending pool table
