-- A set of two partitions with few entries each, for worked values. The pool has room for their two
-- tables alone, and the lists have the states of the first two groups: all others stay empty.
use Rattle.std.proofs.Common.{ℕ, List, [], ◌∷◌, false, None, replicate}
use Rattle.frame_grants.specs.declared.grant.Grant.{Grant}
use Rattle.frame_grants.specs.declared.grant.Kind.TheVariants.{Ram}
use Rattle.hpt_pool.specs.Pool.{PoolState, block_at}
use Rattle.storage_prot.specs.declared.want.Want.TheVariants.{Load}
use Rattle.entry_model.specs.State.{empty_state}
use Rattle.tlb_model.specs.Processor.{new_processor}
use Rattle.trace_line.specs.declared.line.TraceLine.{TraceLine}
use Rattle.trace_line.specs.declared.act.Act.TheVariants.{Dump}
use Rattle.run_model.proofs.SmallPartition.{calls, reaches, mte}
use Rattle.lpar_set.specs.declared.turn.Turn.{Turn}
use Rattle.lpar_set.specs.SetTrace.{NumberedTrace, AcceptedSet}
use Rattle.lpar_set.specs.SetRun.{MemberState, SetState}

-- ---- the partitions
-- 1 GB of main storage from this machine address on.
abbrev pub storage : ℕ → Grant
storage machine = record { logical = 0; machine = machine; length = 0x40000000; kind = Ram }

-- The grants of a partition that has only this 1 GB of main storage.
abbrev pub storage_at : ℕ → List Grant
storage_at machine = storage machine ∷ []

-- A partition of this number, with that storage and these lines.
abbrev pub small_partition : ℕ → ℕ → List TraceLine → NumberedTrace
small_partition number machine lines = record {
  number = number;
  trace = record {
    config = record {
      order = 18;
      limit = 20;
      cpus = 1;
      granted = record { pool_base = 0x1000000000; pool_order = 19; grants = storage_at machine };
      entries = [];
      windows = [];
    };
    lines = lines;
  };
}

-- H_ENTER of the page of VSID 1 and index 1 at index 0, with the frame 0x3000.
abbrev pub enters : ℕ → TraceLine
enters n = calls n 0x08 (0x8000000000 ∷ 0 ∷ 0x1001 ∷ 0x3012 ∷ [])

-- H_RESIZE_HPT_PREPARE of a table of order 18.
abbrev pub prepares : ℕ → TraceLine
prepares n = calls n 0x36C (0 ∷ 18 ∷ [])

-- The lines of partition 2.
abbrev pub lower_lines : List TraceLine
lower_lines = mte 5 0x8000000 0x1000 ∷ enters 7 ∷ prepares 10 ∷ []

-- The lines of partition 5.
abbrev pub higher_lines : List TraceLine
higher_lines =
    mte 6 0x8000000 0x1000
    ∷ enters 8
    ∷ reaches 9 Load 0x1234 false
    ∷ record { number = 11; cpu = 0; act = Dump }
    ∷ []

-- ---- the set
-- The turn of the partition at an index, with its line at an index.
abbrev pub turn : ℕ → ℕ → Turn
turn partition line = record { partition = partition; line = line }

-- Partition 2 and partition 5, which take turns.
abbrev pub small_set : AcceptedSet
small_set = record {
  pool_base = 0x1000000000;
  pool_order = 19;
  partitions =
      small_partition 2 0x2000000000 lower_lines ∷ small_partition 5 0x3000000000 higher_lines ∷ [];
  turns = turn 0 0 ∷ turn 1 0 ∷ turn 0 1 ∷ turn 1 1 ∷ turn 1 2 ∷ turn 0 2 ∷ turn 1 3 ∷ [];
}

-- ---- before the first line
-- A partition whose table lies at this place.
abbrev pub small_member : ℕ → ℕ → MemberState
small_member machine place = record {
  grants = storage_at machine;
  limit = 20;
  pending = None;
  table = record { order = 18; place = place; number = 0; states = replicate 16 (empty_state 0) };
  processors = new_processor ∷ [];
}

-- A pool of two blocks, both of which are taken.
abbrev pub full_pool : PoolState
full_pool = record {
  base = 0x1000000000;
  order = 19;
  taken = block_at 0x1000000000 18 ∷ block_at 0x1000040000 18 ∷ [];
}

-- The set before its first line: each of the two partitions has one of the pool's blocks for its
-- table.
abbrev pub opened : SetState
opened = record {
  pool = full_pool;
  members = small_member 0x2000000000 0x1000000000 ∷ small_member 0x3000000000 0x1000040000 ∷ [];
}
