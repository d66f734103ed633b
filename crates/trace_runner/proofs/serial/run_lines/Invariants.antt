use Rattle.std.proofs.Common.{◌≡◌, ◌≤◌, ◌+◌, ◌++◌, drop, length}
use Rattle.trace_runner.specs.MachineState.{replies_of, stores_end}
use Rattle.trace_runner.proofs.serial.run_lines.Given as goal

-- The replies so far and those to the lines that are left are those to all, and so with the state
-- of the run.
abbrev pub invariant-loop-line : goal.invariant-loop-line
invariant-loop-line l = record {
  told :
      l.replies.items ++ replies_of l.machine (drop l.line-index l.lines)
      ≡ replies_of l.fn.machine l.lines;
  run_state : stores_end l.machine (drop l.line-index l.lines) ≡ stores_end l.fn.machine l.lines;
  cpus : length l.machine.table.processors ≡ length l.fn.machine.table.processors;
  count : length l.replies.items ≡ l.line-index;
  room : l.replies.spare + l.line-index ≡ length l.lines;
  number : l.machine.table.memory.table.number ≤ l.line-index;
}
