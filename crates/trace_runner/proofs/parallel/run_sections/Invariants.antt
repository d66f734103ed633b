use Rattle.std.proofs.Common.{◌≡◌, ◌≤◌, List, length, take}
use Rattle.trace_reply.specs.declared.reply.Reply.{Reply}
use Rattle.run_model.specs.Quiet.{NoneQuiet}
use Rattle.trace_runner.proofs.PartsOfLines.{part}
use Rattle.trace_runner.proofs.SectionsRun.{Done}
use Rattle.trace_runner.proofs.parallel.run_sections.Given as goal

abbrev pub invariant-loop-i : goal.invariant-loop-i
invariant-loop-i g l = record {
  low : l.start ≤ l.i;
  none_quiet : NoneQuiet (part l.start l.i l.lines);
  processors : length l.machine.table.processors ≡ length l.fn.opened.table.processors;
  number : l.machine.table.memory.table.number ≤ l.i;
  replies : List Reply;
  put : g.L.RunLog.has l.output (take l.start l.lines) replies;
  done : Done l.fn.opened l.lines l.start l.machine replies;
}
