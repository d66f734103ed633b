-- Worked values, which the checker computes.
use Rattle.std.proofs.Common.{◌≡◌, ℕ, true, List, [], ◌∷◌, Option, Some, None, refl}
use Rattle.hpt_pool.specs.Pool.{Block, block_at, lowest_place, multiples, taken_with}
use Rattle.frame_grants.specs.Grants.{no_grants}
use Rattle.trace_read.specs.Configuration.{Configuration}
use Rattle.entry_model.specs.State.{State, empty_state}
use Rattle.entry_model.specs.Run.{state_at}
use Rattle.papr_codes.specs.declared.codes.Rc.TheVariants.{Success, Busy, Closed, LongBusy, Parameter, Resource}
use Rattle.hpt_resize.specs.Pending.{PendingTable}
use Rattle.hpt_resize.specs.Resize.{outcome_of_prepare, outcome_of_commit}
use Rattle.hpt_resize.specs.TableMemory.{TableMemory, empty_states, opening_memory, prepare_result, commit_result}
use Rattle.partition.specs.PartitionState.{PartitionState, opening_partition}

-- ---- the opening table
config : ℕ → Configuration
config order =
    record {
      order = order;
      limit = 22;
      cpus = 1;
      granted = no_grants 0x1000000000 24;
      entries = [];
      windows = [];
    }

at_the_base_of_the_pool : (opening_partition (config 18)).memory.table.place ≡ 0x1000000000
unfolding opening_partition opening_memory lowest_place multiples config
at_the_base_of_the_pool = refl

its_block_is_taken :
    (opening_partition (config 20)).memory.pool.taken ≡ block_at 0x1000000000 20 ∷ []
unfolding opening_partition opening_memory lowest_place multiples taken_with config
its_block_is_taken = refl

the_first_number : (opening_partition (config 18)).memory.table.number ≡ 0
unfolding opening_partition opening_memory config
the_first_number = refl

-- ---- an entry that is valid at first, with R and C
opened : PartitionState
unfolding opening_partition opening_memory lowest_place multiples
opened =
    opening_partition
    (record (config 18) {
      entries = record { index = 0x20; dword0 = 0x1001; dword1 = 0x3192 } ∷ [];
    })

it_has_its_words :
    state_at opened.memory.table.states 0x20
    ≡ record {
      valid = true;
      dword0 = 0x1001;
      dword1 = 0x3012;
      referenced = true;
      changed = true;
      stamp = 0;
    }
unfolding opened opening_partition opening_memory empty_states config
it_has_its_words = refl

the_next_one_is_empty : state_at opened.memory.table.states 0x21 ≡ empty_state 0
unfolding opened opening_partition opening_memory empty_states config
the_next_one_is_empty = refl

-- ---- the resize calls on any states
memory : ℕ → Option PendingTable → List Block → List State → TableMemory
memory limit pending more states = record {
  limit = limit;
  pool = record { base = 0x1000000000; order = 24; taken = block_at 0x1000000000 18 ∷ more };
  pending = pending;
  table = record { order = 18; place = 0x1000000000; number = 0; states = states };
}

pending : ℕ → Option PendingTable
pending ready = Some (record { order = 22; place = 0x1000400000; ready = ready })

a_first_part :
    (states : List State)
    → prepare_result (memory 22 None [] states) 0 22
    ≡ (LongBusy, memory 22 (pending 16384) (block_at 0x1000400000 22 ∷ []) states)
unfolding prepare_result outcome_of_prepare lowest_place multiples taken_with memory pending
a_first_part states = refl

the_last_part :
    (states : List State)
    → prepare_result (memory 22 (pending 245760) (block_at 0x1000400000 22 ∷ []) states) 0 22
    ≡ (Success, memory 22 (pending 262144) (block_at 0x1000400000 22 ∷ []) states)
unfolding prepare_result outcome_of_prepare memory pending
the_last_part states = refl

above_the_limit :
    (states : List State)
    → prepare_result (memory 20 None [] states) 0 22 ≡ (Resource, memory 20 None [] states)
unfolding prepare_result outcome_of_prepare memory
above_the_limit states = refl

too_early :
    (states : List State)
    → commit_result (memory 22 (pending 16384) (block_at 0x1000400000 22 ∷ []) states) 0 22
    ≡ (Busy, memory 22 (pending 16384) (block_at 0x1000400000 22 ∷ []) states)
unfolding commit_result outcome_of_commit memory pending
too_early states = refl

nothing_pending :
    (states : List State)
    → commit_result (memory 22 None [] states) 0 22 ≡ (Closed, memory 22 None [] states)
unfolding commit_result outcome_of_commit memory
nothing_pending states = refl

with_a_flag :
    (states : List State)
    → commit_result (memory 22 None [] states) 1 22 ≡ (Parameter, memory 22 None [] states)
unfolding commit_result outcome_of_commit memory
with_a_flag states = refl
