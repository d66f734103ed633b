-- What holds of an empty entry, and of each entry at stamp 0 where it holds of the entry, holds of
-- each entry after a commit.
use Rattle.std.proofs.Common.{ℕ, List, length, Option, Some, None}
use Rattle.std.specs.List.{AllByRecursion, range_with_len}
use Rattle.std.specs.Option.{option_map_or}
use Rattle.papr_codes.specs.declared.codes.Rc.{Rc}
use Rattle.hpt_pool.specs.Pool.{PoolState}
use Rattle.hpte_fields.specs.TableSize.{entry_count}
use Rattle.entry_model.specs.State.{State, empty_state}
use Rattle.entry_model.specs.Run.{state_at}
use Rattle.hpt_resize.specs.declared.carry.Collision.{Collision}
use Rattle.hpt_resize.specs.Rehash.{at_stamp_0, first_with, entry_at, collision_of, rehashed_states}
use Rattle.hpt_resize.specs.Pending.{PendingTable}
use Rattle.hpt_resize.specs.Resize.{Table, commit_refusal, carry_outcome, complete_outcome, answer_outcome, outcome_of_commit}
use Rattle.hpt_resize.specs.TableMemory.{TableMemory, commit_result}
use Rattle.basics.proofs.Each.{each_at, each_of_map}

module _ (P : State → Type 0) (empty : P (empty_state 0))
    (kept : (s : State) → P s → P (at_stamp_0 s)) where
  carried_one :
      (states : List State) (index : Option ℕ)
      → AllByRecursion P states
      → P (option_map_or (λ i. at_stamp_0 (state_at states i)) index (empty_state 0))
  carried_one states None h = empty
  carried_one states (Some i) h =
      kept (state_at states i) (each_at P states i (empty_state 0) empty h)

  entry_one :
      (from to : ℕ) (states : List State) (target : ℕ)
      → AllByRecursion P states
      → P (entry_at from to states target)
  unfolding entry_at
  entry_one from to states target h =
      carried_one states (first_with from to states (length states) target) h

  pub rehashed_each :
      (from to : ℕ) (states : List State)
      → AllByRecursion P states
      → AllByRecursion P (rehashed_states from to states)
  unfolding rehashed_states
  rehashed_each from to states h =
      each_of_map P (entry_at from to states) (range_with_len 0 (entry_count to))
      (λ e. entry_one from to states e h)

  over_each :
      (pending : PendingTable) (pool : PoolState) (table : Table) (collision : Option Collision)
      → AllByRecursion P table.states
      → AllByRecursion P (carry_outcome pending pool table collision).table.states
  over_each pending pool table (Some collision) h = h
  over_each pending pool table None h = rehashed_each table.order pending.order table.states h

  completed_each :
      (pending : Option PendingTable) (pool : PoolState) (table : Table)
      → AllByRecursion P table.states
      → AllByRecursion P (complete_outcome pending pool table).table.states
  completed_each None pool table h = h
  completed_each (Some pending) pool table h =
      over_each pending pool table (collision_of table.order pending.order table.states) h

  answered_each :
      (refusal : Option Rc) (pending : Option PendingTable) (pool : PoolState) (table : Table)
      → AllByRecursion P table.states
      → AllByRecursion P (answer_outcome refusal pending pool table).table.states
  answered_each (Some code) pending pool table h = h
  answered_each None pending pool table h = completed_each pending pool table h

  pub committed_each :
      (memory : TableMemory) (flags shift : ℕ)
      → AllByRecursion P memory.table.states
      → AllByRecursion P (commit_result memory flags shift).1.table.states
  unfolding commit_result outcome_of_commit
  committed_each memory flags shift h =
      answered_each (commit_refusal flags shift memory.pending) memory.pending memory.pool
      memory.table h
