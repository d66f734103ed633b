-- The two resize calls by C: their answers, what is pending after them, and the memory that is
-- lent. The caller lends that memory for the table that is made ready.
use Rattle.std.specs.Prelude.{ℕ, ℤ, ◌-◌, ◌==◌, ◌&&◌, not, Bool, true, false, nat_lt, nat_le, min, if◌then◌else◌, List, ◌++◌, length, take, drop, replicate, Option, Some, None}
use Rattle.hpte_fields.specs.TableSize.{entry_count, greatest_order, is_table_order}
use Rattle.papr_codes.specs.ReturnCodes.{rc_code}
use Rattle.papr_codes.specs.declared.codes.Rc.{Rc}
use Rattle.papr_codes.specs.declared.codes.Rc.TheVariants.{Success, LongBusy, Parameter, NoMem, Resource}
use Rattle.entry_model.specs.State.{State, empty_state}
use Rattle.hpt_resize.specs.Pending.{PendingTable, no_entries, is_ready, with_more_ready}
use Rattle.hpt_resize.specs.Rehash.{collision_of}
use Rattle.hpt_resize.specs.Resize.{is_prepare_request, commit_refusal}
use Rattle.papr_c.specs.declared.rehashing.PaprRehash.{PaprRehash}
use Rattle.papr_c.specs.declared.resizing.PaprResize.{PaprResize}
use Rattle.c_layout.specs.Tables.{is_table}
use Rattle.c_layout.specs.Entries.{Entry, states_of}
use Rattle.papr_c.specs.Rehash.{refused_rehash, rehash_told, table_after, entries_after}

-- What a resize call may change: what is pending, and the memory that is lent for its table.
pub record ResizeMemory : Type 0 where
  pub resize : PaprResize
  pub into : List State

-- The memory of these parts.
abbrev pub resize_memory : PaprResize → List State → ResizeMemory
resize_memory resize into = record { resize = resize; into = into }

-- ---- what is pending
-- Nothing is pending.
abbrev pub nothing_pending : PaprResize
nothing_pending = record { ready = 0; order = 0; pending = false }

-- This table is pending.
abbrev pub with_pending : PendingTable → PaprResize
with_pending table = record { ready = table.ready; order = table.order; pending = true }

-- A table is pending, of an order that a table can have, and no more of its entries are ready than
-- it has.
abbrev pub is_pending_table : PaprResize → Bool
is_pending_table r =
    r.pending
    && (is_table_order r.order && nat_le r.ready (entry_count r.order))

-- That table, if there is one. It has no place in a pool.
abbrev pub pending_of : PaprResize → Option PendingTable
pending_of r =
    if is_pending_table r
    then Some (record { order = r.order; place = 0; ready = r.ready })
    else None

-- ---- prepare
-- The pending table of this order, or else a new one, of which no entry is ready.
abbrev pub table_of_order : ℕ → Option PendingTable → PendingTable
table_of_order order None = no_entries order 0
table_of_order order (Some table) = if table.order == order then table else no_entries order 0

-- The entries from an index on, as far as the second one, are empty; the others are as they were.
abbrev pub emptied : ℕ → ℕ → List State → List State
emptied first end states =
    take first states ++ (replicate (end - first) (empty_state 0) ++ drop end states)

-- All entries are ready, or the guest has to call once more.
abbrev pub code_of_table : PendingTable → Rc
code_of_table table = if is_ready table then Success else LongBusy

-- The next entries of this table are made ready, and so emptied.
abbrev pub prepared : PendingTable → List State → ℤ × ResizeMemory
prepared table into =
    let next = with_more_ready table in (
      rc_code (code_of_table next),
      resize_memory (with_pending next) (emptied table.ready next.ready into),
    )

-- H_RESIZE_HPT_PREPARE with these flags and this order, of which the limit is the highest, but none
-- is above that of the largest table. Order 0 drops what is pending, and so does memory that isn't
-- that of a table of the order, which is H_NO_MEM. A refusal before that changes nothing.
unfoldable pub outcome_of_resize_prepare : ℕ → ℕ → ℕ → ResizeMemory → ℤ × ResizeMemory
outcome_of_resize_prepare limit flags shift m =
    if not (is_prepare_request flags shift)
    then (rc_code Parameter, m)
    else if nat_lt (min limit greatest_order) shift
    then (rc_code Resource, m)
    else if shift == 0
    then (rc_code Success, resize_memory nothing_pending m.into)
    else if length m.into == entry_count shift
    then prepared (table_of_order shift (pending_of m.resize)) m.into
    else (rc_code NoMem, resize_memory nothing_pending m.into)

-- ---- commit
-- The bolted entries are carried over into the memory of the pending table, of which nothing else
-- stays; nothing is pending then.
abbrev pub committed : ℕ → List State → ℕ → PaprRehash × ResizeMemory
committed order entries shift =
    let collision = collision_of order shift entries in (
      rehash_told collision,
      resize_memory nothing_pending (table_after collision order shift entries),
    )

-- Where nothing refuses it, and the memory is that of a table of the pending order.
abbrev pub commit_where :
    Option Rc → ℕ → List State → ℕ → ResizeMemory → PaprRehash × ResizeMemory
commit_where (Some rc) order entries shift m = (refused_rehash rc, m)
commit_where None order entries shift m =
    if length m.into == entry_count shift
    then committed order entries shift
    else (refused_rehash Parameter, m)

-- H_RESIZE_HPT_COMMIT with these flags and this order, of a current table of 2 ^ order bytes. A
-- refusal changes nothing.
unfoldable pub outcome_of_resize_commit :
    ℕ → List State → ℕ → ℕ → ResizeMemory → PaprRehash × ResizeMemory
outcome_of_resize_commit order entries flags shift m =
    if is_table order entries
    then commit_where (commit_refusal flags shift (pending_of m.resize)) order entries shift m
    else (refused_rehash Parameter, m)

-- The entries of that memory with their marks, where nothing refuses the commit.
abbrev pub entries_where : Option Rc → ℕ → List State → ℕ → List Entry → List Entry
entries_where (Some rc) order entries shift into = into
entries_where None order entries shift into =
    if length (states_of into) == entry_count shift
    then entries_after (collision_of order shift entries) order shift entries into
    else into

-- The entries of the new table's memory after a commit of a current table of 2 ^ order bytes,
-- marked as by a rehash.
abbrev pub committed_entries :
    ℕ → List State → ℕ → ℕ → PaprResize → List Entry → List Entry
committed_entries order entries flags shift resize into =
    if is_table order entries
    then entries_where (commit_refusal flags shift (pending_of resize)) order entries shift into
    else into
