-- The resize calls of C are those over a pool whose block is the memory that is lent. What that
-- memory is to them, a block of the pool is to the calls of hpt_resize.
use Rattle.std.specs.Prelude.{◌≡◌, ℕ, ◌==◌, true, min, length, Option, None, Some, is_some}
use Rattle.hpte_fields.specs.TableSize.{entry_count, greatest_order}
use Rattle.hpt_pool.specs.Pool.{PoolState, lowest_place}
use Rattle.papr_codes.specs.ReturnCodes.{rc_code}
use Rattle.papr_codes.specs.declared.codes.Rc.TheVariants.{Success}
use Rattle.hpt_resize.specs.Pending.{PendingTable}
use Rattle.hpt_resize.specs.Resize.{Table, pool_without, is_pending, outcome_of_prepare, commit_refusal, outcome_of_commit}
use Rattle.papr_c.specs.declared.resizing.PaprResize.{PaprResize}
use Rattle.c_layout.specs.Tables.{is_table}
use Rattle.papr_c.specs.Resizing.{ResizeMemory, nothing_pending, with_pending, pending_of, outcome_of_resize_prepare, outcome_of_resize_commit}

-- What is pending as C has it: a table without its place.
abbrev pub resize_of : Option PendingTable → PaprResize
resize_of None = nothing_pending
resize_of (Some table) = with_pending table

-- The pool has a block of the order exactly if the lent memory is that of a table of it, and a
-- pending table of the order has that memory.
pub record HasLentBlock (shift : ℕ) (m : ResizeMemory) (pool : PoolState) : Type 0 where
  pub block :
      is_some (lowest_place (pool_without (pending_of m.resize) pool) shift)
      ≡ (length m.into == entry_count shift)
  pub stands : is_pending shift (pending_of m.resize) ≡ true → length m.into ≡ entry_count shift

-- Over such a pool both calls of H_RESIZE_HPT_PREPARE answer one code, and leave one table pending.
abbrev pub IsPrepareOfPool : Type 0
IsPrepareOfPool =
    (limit flags shift : ℕ) (m : ResizeMemory) (pool : PoolState)
    → HasLentBlock shift m pool
    → let here = outcome_of_resize_prepare limit flags shift m in
    let there = outcome_of_prepare (min limit greatest_order) flags shift (pending_of m.resize) pool
    in
    (here.0 ≡ rc_code there.rc) × (resize_of (pending_of here.1.resize) ≡ resize_of there.pending)

-- Over lent memory that is that of a table of the order wherever nothing else refuses the commit,
-- and a current table with these entries, both calls of H_RESIZE_HPT_COMMIT answer one code and
-- leave one table pending; at H_SUCCESS the memory holds what is the current table then.
abbrev pub IsCommitOfPool : Type 0
IsCommitOfPool =
    (flags shift : ℕ) (m : ResizeMemory) (pool : PoolState) (table : Table)
    → is_table table.order table.states ≡ true
    → (commit_refusal flags shift (pending_of m.resize) ≡ None → length m.into ≡ entry_count shift)
    → let here = outcome_of_resize_commit table.order table.states flags shift m in
    let there = outcome_of_commit flags shift (pending_of m.resize) pool table in
    (here.0.rc ≡ rc_code there.rc)
    × (resize_of (pending_of here.1.resize) ≡ resize_of there.pending)
    × (there.rc ≡ Success → here.1.into ≡ there.table.states)
