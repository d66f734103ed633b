use Rattle.std.proofs.Common.{◌≡◌, ◌≤◌, ◌++◌, List, drop, length}
use Rattle.trace_reply.specs.declared.reply.Reply.{Reply}
use Rattle.trace_runner.specs.MachineState.{replies_of, stores_end}
use Rattle.reply_text.specs.Summary.{IsCountOf}
use Rattle.trace_runner.proofs.counting.count_lines.Given as goal

-- The replies so far, which are counted, and those to the lines that are left are those to all.
abbrev pub invariant-loop-line : goal.invariant-loop-line
invariant-loop-line l = record {
  seen : List Reply;
  counted : IsCountOf l.counts seen;
  count : length seen ≡ l.line-index;
  told : seen ++ replies_of l.machine (drop l.line-index l.lines) ≡ replies_of l.fn.machine l.lines;
  run_state : stores_end l.machine (drop l.line-index l.lines) ≡ stores_end l.fn.machine l.lines;
  cpus : length l.machine.table.processors ≡ length l.fn.machine.table.processors;
  number : l.machine.table.memory.table.number ≤ l.line-index;
}
