-- A PREPARE of a run whose blocks lie elsewhere: it answers the same where its pool too has room
-- for the table.
use Rattle.std.specs.Prelude.{option_map}
use Rattle.std.proofs.Common.{◌≡◌, ◌≢◌, ℕ, ◌≤◌, ◌==◌, nat_lt, not, Bool, true, false, if◌then◌else◌, Option, Some, None, refl, sym, subst}
use Rattle.papr_codes.specs.declared.codes.Rc.{Rc}
use Rattle.papr_codes.specs.declared.codes.Rc.TheVariants.{Success}
use Rattle.hpt_pool.specs.Pool.{PoolState, block_at, lowest_place, with_block}
use Rattle.hpt_resize.specs.Pending.{PendingTable}
use Rattle.hpt_resize.specs.Resize.{PrepareOutcome, prepare_outcome, is_prepare_request, pool_without, is_pending, new_table_outcome, start_outcome, advance_outcome, outcome_of_prepare}
use Rattle.hpt_resize.specs.TableMemory.{TableMemory, prepare_result}
use Rattle.partition.proofs.Resizing.{answer_at}
use Rattle.partition.proofs.PoolKept.{asked_low}
use Rattle.lpar_set.specs.SetLaws.{is_no_mem_code}
use Rattle.lpar_set.proofs.Moved.{pending_at, moved_memory, IsLikeMemory}
use Rattle.hpte_fields.specs.TableSize.{least_order}

-- Where the one pool has room for a table, beside all but the one that is being prepared, the other
-- pool has it too.
abbrev pub HasRoomToo : Option PendingTable → PoolState → Option PendingTable → PoolState → Type 0
HasRoomToo pending pool pending_too pool_too =
    (order : ℕ)
    → least_order ≤ order
    → lowest_place (pool_without pending pool) order ≢ None
    → lowest_place (pool_without pending_too pool_too) order ≢ None

-- The same code, and the same table being prepared, perhaps elsewhere.
record IsLikeOutcome (one two : PrepareOutcome) : Type 0 where
  pool : PoolState
  other : ℕ
  same : two ≡ prepare_outcome one.rc (option_map (pending_at other) one.pending) pool

-- The code isn't H_NO_MEM.
abbrev IsServed : PrepareOutcome → Type 0
IsServed outcome = is_no_mem_code outcome.rc ≡ false

if_like :
    (b : Bool) (one two one_too two_too : PrepareOutcome)
    → (b ≡ true → IsServed one → IsLikeOutcome one one_too)
    → (b ≡ false → IsServed two → IsLikeOutcome two two_too)
    → IsServed (if b then one else two)
    → IsLikeOutcome (if b then one else two) (if b then one_too else two_too)
if_like true one two one_too two_too first second served = first refl served
if_like false one two one_too two_too first second served = second refl served

-- An outcome, and what goes on with its table.
abbrev advanced : PrepareOutcome → PrepareOutcome
advanced start = advance_outcome start start.pending

new_like :
    (order : ℕ) (pool pool_too : PoolState) (place place_too : Option ℕ)
    → (place ≢ None → place_too ≢ None)
    → IsServed (advanced (new_table_outcome order pool place))
    → IsLikeOutcome (advanced (new_table_outcome order pool place))
    (advanced (new_table_outcome order pool_too place_too))
new_like order pool pool_too None place_too room served = absurd (cc)
new_like order pool pool_too (Some place) None room served = absurd (room (λ e. absurd (cc)) refl)
new_like order pool pool_too (Some place) (Some place_too) room served =
    record { pool = with_block pool_too (block_at place_too order); other = place_too; same = refl }

pending_like :
    (pending : Option PendingTable) (pool pool_too : PoolState) (other : ℕ)
    → IsLikeOutcome (advanced (prepare_outcome Success pending pool))
    (advanced (prepare_outcome Success (option_map (pending_at other) pending) pool_too))
pending_like None pool pool_too other = record { pool = pool_too; other = other; same = refl }
pending_like (Some table) pool pool_too other =
    record { pool = pool_too; other = other; same = refl }

is_pending_like :
    (order : ℕ) (pending : Option PendingTable) (other : ℕ)
    → is_pending order (option_map (pending_at other) pending) ≡ is_pending order pending
is_pending_like order None other = refl
is_pending_like order (Some table) other = refl

-- The two cases of a table that is to be made, by whether it is being prepared.
started_by :
    (b : Bool) (one two one_too two_too : PrepareOutcome)
    → IsLikeOutcome (advanced one) (advanced one_too)
    → (IsServed (advanced two) → IsLikeOutcome (advanced two) (advanced two_too))
    → IsServed (advanced (if b then one else two))
    → IsLikeOutcome (advanced (if b then one else two)) (advanced (if b then one_too else two_too))
started_by true one two one_too two_too first second served = first
started_by false one two one_too two_too first second served = second served

started_like :
    (order : ℕ) (pending : Option PendingTable) (pool pool_too : PoolState) (other : ℕ)
    → least_order ≤ order
    → HasRoomToo pending pool (option_map (pending_at other) pending) pool_too
    → IsServed (advanced (start_outcome order pending pool))
    → IsLikeOutcome (advanced (start_outcome order pending pool))
    (advanced (start_outcome order (option_map (pending_at other) pending) pool_too))
started_like order pending pool pool_too other large room served =
    let moved = option_map (pending_at other) pending in
    let left = pool_without pending pool in
    let left_too = pool_without moved pool_too in
    let both = started_by (is_pending order pending) (prepare_outcome Success pending pool)
    (new_table_outcome order left (lowest_place left order))
    (prepare_outcome Success moved pool_too)
    (new_table_outcome order left_too (lowest_place left_too order))
    (pending_like pending pool pool_too other)
    (new_like order left left_too (lowest_place left order) (lowest_place left_too order)
    (room order large)) served in
    subst
    (λ (b : Bool).
    IsLikeOutcome (advanced (start_outcome order pending pool))
    (advanced
    (if b then prepare_outcome Success moved pool_too else new_table_outcome order
    left_too (lowest_place left_too order))))
    (sym (is_pending_like order pending other)) both

outcome_like :
    (limit flags shift : ℕ) (pending : Option PendingTable) (pool pool_too : PoolState) (other : ℕ)
    → HasRoomToo pending pool (option_map (pending_at other) pending) pool_too
    → IsServed (outcome_of_prepare limit flags shift pending pool)
    → IsLikeOutcome (outcome_of_prepare limit flags shift pending pool)
    (outcome_of_prepare limit flags shift (option_map (pending_at other) pending) pool_too)
unfolding outcome_of_prepare
outcome_like limit flags shift pending pool pool_too other room =
    if_like (not (is_prepare_request flags shift)) _ _ _ _
    (λ e served. record { pool = pool_too; other = other; same = refl })
    (λ asked.
    if_like (nat_lt limit shift) _ _ _ _
    (λ e served. record { pool = pool_too; other = other; same = refl })
    (λ low.
    if_like (shift == 0) _ _ _ _
    (λ e served.
    record {
      pool = pool_without (option_map (pending_at other) pending) pool_too;
      other = other;
      same = refl;
    })
    (λ nonzero.
    started_like shift pending pool pool_too other (asked_low flags shift asked nonzero) room)))

-- The memory after a prepare with this outcome.
abbrev prepared : TableMemory → PrepareOutcome → Rc × TableMemory
prepared memory after =
    answer_at after.rc (record memory { pool = after.pool; pending = after.pending })

prepared_like :
    (memory : TableMemory) (pool : PoolState) (place other : ℕ) (one two : PrepareOutcome)
    → IsLikeOutcome one two
    → IsLikeMemory (prepared memory one) (prepared (moved_memory memory pool place other) two)
prepared_like memory pool place other one two like =
    subst
    (λ (o : PrepareOutcome).
    IsLikeMemory (prepared memory one) (prepared (moved_memory memory pool place other) o))
    (sym like.same)
    (record { pool = like.pool; place = place; other = like.other; same = refl })

pub prepare_like :
    (memory : TableMemory) (pool : PoolState) (place other : ℕ) (flags shift : ℕ)
    → HasRoomToo memory.pending memory.pool (option_map (pending_at other) memory.pending) pool
    → is_no_mem_code (prepare_result memory flags shift).0 ≡ false
    → IsLikeMemory (prepare_result memory flags shift)
    (prepare_result (moved_memory memory pool place other) flags shift)
unfolding prepare_result
prepare_like memory pool place other flags shift room served =
    prepared_like memory pool place other
    (outcome_of_prepare memory.limit flags shift memory.pending memory.pool)
    (outcome_of_prepare memory.limit flags shift (option_map (pending_at other) memory.pending)
    pool)
    (outcome_like memory.limit flags shift memory.pending memory.pool pool other room served)
