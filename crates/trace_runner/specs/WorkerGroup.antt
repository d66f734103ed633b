-- A group of workers side by side, which run together.
use Rattle.std.specs.Prelude.{◌≡◌, ℕ, ◌+◌, ◌<◌, ◌≤◌, List, length}
use Rattle.entry_lock.specs.declared.table.LockTable.{LockTable}
use Rattle.run_model.specs.StoreContexts.{StoreContext}
use Rattle.trace_line.specs.declared.line.TraceLine.{TraceLine}
use Rattle.trace_runner.specs.declared.worker.Worker.{Worker}
use Rattle.trace_runner.specs.Workers.{Keeping, IsReady, IsDone, AllNumbered, processors_before}
use Rattle.trace_read.specs.Configuration.{most_processors}

-- There is a worker, and all are ready, the first as the processor of this number.
pub record IsReadyGroup
    {L : Type 0}
    (keeps : Keeping L)
    (room_in : L → ℕ)
    (context : StoreContext)
    (table : LockTable)
    (lines : List TraceLine)
    (first : ℕ)
    (ws : List (Worker L))
    : Type 0
  where
    pub some : 0 < length ws
    pub few : first + length ws ≤ most_processors
    pub ready : AllNumbered (λ cpu w. IsReady keeps room_in context table cpu lines w) first ws

-- The workers have run their lines, each as the processor of its number.
pub record RunsGroup
    {L : Type 0}
    (keeps : Keeping L)
    (context : StoreContext)
    (table : LockTable)
    (lines : List TraceLine)
    (first : ℕ)
    (old new : List (Worker L))
    : Type 0
  where
    pub count : length new ≡ length old
    pub done : AllNumbered (λ cpu w. IsDone keeps context table cpu lines w) first new
    pub before : processors_before new ≡ processors_before old
