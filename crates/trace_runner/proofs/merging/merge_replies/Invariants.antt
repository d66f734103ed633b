use Rattle.std.proofs.Common.{◌≡◌, ℕ, List, length}
use Rattle.trace_reply.specs.declared.reply.Reply.{Reply}
use Rattle.run_model.specs.AllStores.{windows_in}
use Rattle.trace_runner.specs.StoreRuns.{StoresKeep}
use Rattle.trace_runner.proofs.MergedReplies.{Merging}
use Rattle.trace_runner.proofs.merging.merge_replies.Given as goal

abbrev pub invariant-loop-line : goal.invariant-loop-line
invariant-loop-line g l = record {
  size : length l.logs.items ≡ length l.fn.logs.items;
  merging :
      (picks : ℕ → ℕ → List Reply)
      → StoresKeep g.L.ReplyLog.keeps (windows_in l.windows) l.lines picks l.fn.logs.items
      → Merging g.L.ReplyLog.keeps g.L.RunLog.has (windows_in l.windows) l.lines l.line-index picks
      l.logs.items l.fn.output l.output;
}
