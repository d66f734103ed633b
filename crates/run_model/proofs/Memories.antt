-- What the two resize calls keep of a partition at memory.
use Rattle.std.specs.Prelude.{◌==◌, ◌||◌, nat_lt, nat_le, IfSome}
use Rattle.std.proofs.Common.{◌≡◌, ℕ, ◌-◌, ◌^◌, ◌≤◌, true, false, refl, ◌⊎◌, inl, inr, not, List, length, Option, Some, None, arith}
use Rattle.std.proofs.lemmas.Bool.{cond_both, and_parts, ltb-false, leb-true, not-false}
use Rattle.papr_codes.specs.declared.codes.Rc.{Rc}
use Rattle.papr_codes.specs.declared.codes.Rc.TheVariants.{Success}
use Rattle.table_image.specs.declared.entry.ImageEntry.{ImageEntry}
use Rattle.hpt_pool.specs.Pool.{PoolState, lowest_place}
use Rattle.hpt_resize.specs.declared.carry.Collision.{Collision}
use Rattle.hpt_resize.specs.Rehash.{collision_of}
use Rattle.hpt_resize.proofs.Rehashed.{rehashed-length}
use Rattle.hpt_resize.specs.Pending.{PendingTable}
use Rattle.hpt_resize.specs.Resize.{PrepareOutcome, prepare_outcome, is_prepare_request, pool_without, is_pending, new_table_outcome, start_outcome, advance_outcome, outcome_of_prepare, Table, CommitOutcome, commit_refusal, carry_outcome, complete_outcome, answer_outcome, outcome_of_commit}
use Rattle.hpt_resize.specs.TableMemory.{TableMemory, opening_memory, prepare_result, commit_result}
use Rattle.hpt_resize.proofs.OpeningStates.{opening-length}
use Rattle.hpte_fields.specs.TableSize.{greatest_order, least_order, IsTableOrder, is_architected_order, greatest_architected_order}

-- A table has one of the orders that there are.
abbrev pub IsAllowed : PendingTable → Type 0
IsAllowed table = IsTableOrder table.order

-- The current table has as many entries as its order says, and the pending one has one of the
-- orders.
pub record IsMemory (limit : ℕ) (pending : Option PendingTable) (table : Table) : Type 0 where
  pub limited : limit ≤ greatest_order
  pub low : least_order ≤ table.order
  pub size : length table.states ≡ 2 ^ (table.order - 4)
  pub allowed : IfSome pending IsAllowed

-- The memory's current table has as many entries as its order says, and neither the pending one's
-- order nor the limit is above what there may be.
abbrev pub MemoryStands : TableMemory → Type 0
MemoryStands memory = IsMemory memory.limit memory.pending memory.table

-- ---- prepare
abbrev Allows : PrepareOutcome → Type 0
Allows p = IfSome p.pending IsAllowed

placed_allows :
    (order : ℕ) (pool : PoolState) (place : Option ℕ)
    → least_order ≤ order
    → order ≤ greatest_order
    → Allows (new_table_outcome order pool place)
placed_allows order pool None low high = tt
placed_allows order pool (Some place) low high = (low, high)

started_allows :
    (order : ℕ) (pending : Option PendingTable) (pool : PoolState)
    → least_order ≤ order
    → order ≤ greatest_order
    → IfSome pending IsAllowed
    → Allows (start_outcome order pending pool)
started_allows order pending pool low high h =
    cond_both (is_pending order pending) (prepare_outcome Success pending pool)
    (new_table_outcome order (pool_without pending pool)
    (lowest_place (pool_without pending pool) order)) Allows (λ _. h)
    (λ _.
    placed_allows order (pool_without pending pool)
    (lowest_place (pool_without pending pool) order) low high)

continued_allows :
    (start : PrepareOutcome) (pending : Option PendingTable)
    → IfSome pending IsAllowed
    → Allows start
    → Allows (advance_outcome start pending)
continued_allows start None h k = k
continued_allows start (Some table) h k = h

request_low :
    (flags shift : ℕ)
    → is_prepare_request flags shift ≡ true
    → (shift == 0) ≡ false
    → least_order ≤ shift
request_low flags shift h off =
    let either : ((shift == 0) || is_architected_order shift) ≡ true =
    (and_parts (flags == 0) ((shift == 0) || is_architected_order shift) h).1 in
    let known : is_architected_order shift ≡ true = rw off at either in
    leb-true least_order shift
    (and_parts (nat_le least_order shift) (nat_le shift greatest_architected_order) known).0

prepared_allows :
    (limit flags shift : ℕ) (pending : Option PendingTable) (pool : PoolState)
    → limit ≤ greatest_order
    → IfSome pending IsAllowed
    → Allows (outcome_of_prepare limit flags shift pending pool)
unfolding outcome_of_prepare
prepared_allows limit flags shift pending pool high h =
    cond_both (not (is_prepare_request flags shift)) _ _ Allows (λ _. h)
    (λ asked.
    cond_both (nat_lt limit shift) _ _ Allows (λ _. h)
    (λ below.
    cond_both (shift == 0) _ _ Allows (λ _. tt)
    (λ some. made (not-false _ asked) below some))) where
      made :
          is_prepare_request flags shift ≡ true
          → nat_lt limit shift ≡ false
          → (shift == 0) ≡ false
          → Allows
          (advance_outcome (start_outcome shift pending pool)
          (start_outcome shift pending pool).pending)
      made asked below some =
          let least : least_order ≤ shift = request_low flags shift asked some in
          let most : shift ≤ limit = ltb-false limit shift below in
          let begun : Allows (start_outcome shift pending pool) = started_allows shift pending pool
          least (omega arith) h in
          continued_allows (start_outcome shift pending pool)
          (start_outcome shift pending pool).pending
          begun begun

pub memory_prepared :
    (memory : TableMemory) (flags shift : ℕ)
    → MemoryStands memory
    → MemoryStands (prepare_result memory flags shift).1
unfolding prepare_result
memory_prepared memory flags shift h =
    record {
      limited = h.limited;
      low = h.low;
      size = h.size;
      allowed =
          prepared_allows memory.limit flags shift memory.pending memory.pool h.limited h.allowed;
    }

pub prepare_table :
    (memory : TableMemory) (flags shift : ℕ)
    → (prepare_result memory flags shift).1.table ≡ memory.table
unfolding prepare_result
prepare_table memory flags shift = refl

-- ---- commit
-- The call succeeded, or the table stays; what is left stands.
pub record Commits (limit : ℕ) (table : Table) (c : CommitOutcome) : Type 0 where
  pub stands : IsMemory limit c.pending c.table
  pub moved : (c.rc ≡ Success) ⊎ (c.table ≡ table)

carried_commits :
    (limit : ℕ) (pending : PendingTable) (pool : PoolState) (table : Table)
    (collision : Option Collision)
    → IsMemory limit (Some pending) table
    → Commits limit table (carry_outcome pending pool table collision)
carried_commits limit pending pool table (Some collision) h =
    record {
      stands = record { limited = h.limited; low = h.low; size = h.size; allowed = tt };
      moved = inr refl;
    }
carried_commits limit pending pool table None h =
    record {
      stands =
          record {
            limited = h.limited;
            low = h.allowed.0;
            size = rehashed-length table.order pending.order table.states;
            allowed = tt;
          };
      moved = inl refl;
    }

completed_commits :
    (limit : ℕ) (pending : Option PendingTable) (pool : PoolState) (table : Table)
    → IsMemory limit pending table
    → Commits limit table (complete_outcome pending pool table)
completed_commits limit None pool table h = record { stands = h; moved = inr refl }
completed_commits limit (Some pending) pool table h =
    carried_commits limit pending pool table (collision_of table.order pending.order table.states) h

answered_commits :
    (limit : ℕ) (refusal : Option Rc) (pending : Option PendingTable) (pool : PoolState)
    (table : Table)
    → IsMemory limit pending table
    → Commits limit table (answer_outcome refusal pending pool table)
answered_commits limit (Some rc) pending pool table h = record { stands = h; moved = inr refl }
answered_commits limit None pending pool table h = completed_commits limit pending pool table h

pub memory_committed :
    (memory : TableMemory) (flags shift : ℕ)
    → MemoryStands memory
    → MemoryStands (commit_result memory flags shift).1
unfolding commit_result outcome_of_commit
memory_committed memory flags shift h =
    (answered_commits memory.limit (commit_refusal flags shift memory.pending) memory.pending
    memory.pool memory.table h).stands

pub commit_moves :
    (memory : TableMemory) (flags shift : ℕ)
    → MemoryStands memory
    → ((commit_result memory flags shift).0 ≡ Success)
    ⊎ ((commit_result memory flags shift).1.table ≡ memory.table)
unfolding commit_result outcome_of_commit
commit_moves memory flags shift h =
    (answered_commits memory.limit (commit_refusal flags shift memory.pending) memory.pending
    memory.pool memory.table h).moved

-- ---- the beginning
pub opening_stands :
    (limit order base size : ℕ) (entries : List ImageEntry)
    → limit ≤ greatest_order
    → least_order ≤ order
    → MemoryStands (opening_memory limit order base size entries)
unfolding opening_memory
opening_stands limit order base size entries high low =
    record { limited = high; low = low; size = opening-length order entries; allowed = tt }
