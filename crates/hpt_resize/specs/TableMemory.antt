-- A partition's table memory while no processor runs, and what the two resize calls answer and
-- leave of it.
use Rattle.std.specs.Prelude.{ℕ, List, [], ◌∷◌, Option, None, unwrap_or, replicate, slice_set}
use Rattle.hpt_pool.specs.Pool.{PoolState, no_blocks, block_at, lowest_place, with_block}
use Rattle.entry_model.specs.State.{State, empty_state}
use Rattle.entry_model.specs.Reply.{entered_state}
use Rattle.papr_codes.specs.declared.codes.Rc.{Rc}
use Rattle.hpte_fields.specs.TableSize.{entry_count}
use Rattle.table_image.specs.declared.entry.ImageEntry.{ImageEntry}
use Rattle.hpt_resize.specs.Pending.{PendingTable}
use Rattle.hpt_resize.specs.Resize.{Table, outcome_of_prepare, outcome_of_commit}

-- The highest order that the guest may ask for, the pool of table memory, the table that is being
-- prepared, and the current one.
pub record TableMemory : Type 0 where
  pub limit : ℕ
  pub pool : PoolState
  pub pending : Option PendingTable
  pub table : Table

-- ---- the beginning
-- All entries of a table of 2 ^ order bytes are empty.
unfoldable pub empty_states : ℕ → List State
empty_states order = replicate (entry_count order) (empty_state 0)

-- The states with each of these entries in its place: valid at stamp 0, with its doublewords, R and
-- C. All others stay.
abbrev pub with_entries : List State → List ImageEntry → List State
with_entries states [] = states
with_entries states (e ∷ es) =
    with_entries (slice_set states e.index (entered_state e.dword0 e.dword1)) es

-- A table of 2 ^ order bytes with these entries and no other, at the lowest place of a pool of
-- which nothing is taken.
unfoldable pub opening_memory : ℕ → ℕ → ℕ → ℕ → List ImageEntry → TableMemory
opening_memory limit order pool_base pool_order entries =
    let pool = no_blocks pool_base pool_order in
    let place = unwrap_or (lowest_place pool order) 0 in
    record {
      limit = limit;
      pool = with_block pool (block_at place order);
      pending = None;
      table =
          record {
            order = order;
            place = place;
            number = 0;
            states = with_entries (empty_states order) entries;
          };
    }

-- The memory with these states in the current table.
abbrev pub with_states : TableMemory → List State → TableMemory
with_states memory states = record memory { table = record memory.table { states = states } }

-- ---- the two resize calls
-- The code of H_RESIZE_HPT_PREPARE, and the memory after it.
unfoldable pub prepare_result : TableMemory → ℕ → ℕ → Rc × TableMemory
prepare_result memory flags shift =
    let answer = outcome_of_prepare memory.limit flags shift memory.pending memory.pool in
    (answer.rc, record memory { pool = answer.pool; pending = answer.pending })

-- The code of H_RESIZE_HPT_COMMIT, and the memory after it.
unfoldable pub commit_result : TableMemory → ℕ → ℕ → Rc × TableMemory
commit_result memory flags shift =
    let answer = outcome_of_commit flags shift memory.pending memory.pool memory.table in (
      answer.rc,
      record memory { pool = answer.pool; pending = answer.pending; table = answer.table },
    )
