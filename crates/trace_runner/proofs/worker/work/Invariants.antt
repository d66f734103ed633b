use Rattle.std.proofs.Common.{◌≡◌, ◌+◌, ◌≤◌, List, take, length}
use Rattle.run_model.specs.StoreContexts.{context_on}
use Rattle.trace_reply.specs.declared.reply.Reply.{Reply}
use Rattle.trace_runner.specs.Workers.{HasRun, AreOwn, lines_of_cpu}
use Rattle.trace_runner.proofs.worker.work.Given as goal

abbrev pub invariant-loop-i : goal.invariant-loop-i
invariant-loop-i g l = record {
  own : AreOwn l.lines l.number l.worker.own.items;
  count : length l.worker.own.items ≡ length l.fn.worker.own.items;
  replies : List Reply;
  kept : g.L.ReplyLog.keeps l.worker.log (take l.i (lines_of_cpu l.number l.lines)) replies;
  run :
      HasRun (context_on l.table.order l.around) l.table l.number
      (take l.i (lines_of_cpu l.number l.lines)) replies l.worker l.pass;
  room : length (lines_of_cpu l.number l.lines) ≤ l.i + g.L.ReplyLog.room l.worker.log;
  before : l.worker.before.value ≡ l.fn.worker.before.value;
}
