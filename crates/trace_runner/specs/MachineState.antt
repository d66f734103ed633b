-- What the machine that runs a trace carries: a partition, its processors and its windows.
use Rattle.std.specs.Prelude.{◌≡◌, List}
use Rattle.tlb_model.specs.Processor.{Processor}
use Rattle.trace_read.specs.Configuration.{NumbersDiffer}
use Rattle.partition.specs.PartitionState.{PartitionState, HasStates}
use Rattle.run_model.specs.Stores.{Store}
use Rattle.run_model.specs.AllStores.{WindowState, AllStores, all_stores}
use Rattle.run_model.specs.HeldLines.{AllHold}
use Rattle.trace_line.specs.declared.line.TraceLine.{TraceLine}
use Rattle.trace_reply.specs.declared.reply.Reply.{Reply}
use Rattle.run_model.specs.SerialRun.{run_line, replies_from, stores_after, first_store}
use Rattle.run_model.specs.AllStores.{windows_in}

-- The table has its states, all cached translations hold of them, and the numbers of the windows
-- differ.
pub record IsMachine
    (partition : PartitionState)
    (processors : List Processor)
    (windows : List WindowState)
    : Type 0
  where
    pub has_states : HasStates partition
    pub hold : AllHold partition.memory.table.states processors
    pub differ : NumbersDiffer (windows_in windows)

-- ---- the serial run from here on
-- The line has this reply, and the stores are then so.
pub record RunsLine (s : AllStores) (l : TraceLine) (r : Reply) (later : AllStores) : Type 0 where
  pub ran : (r, all_stores later) ≡ run_line (windows_in s.windows) (all_stores s) l
  pub windows : windows_in later.windows ≡ windows_in s.windows

-- The replies to these lines, one after the other.
abbrev pub replies_of : AllStores → List TraceLine → List Reply
replies_of s lines = replies_from (windows_in s.windows) (all_stores s) lines

-- The stores after them.
abbrev pub stores_end : AllStores → List TraceLine → List Store
stores_end s lines = stores_after (windows_in s.windows) (all_stores s) lines

-- The page table after them.
abbrev pub table_end : AllStores → List TraceLine → Store
table_end s lines = first_store s.table (stores_end s lines)
