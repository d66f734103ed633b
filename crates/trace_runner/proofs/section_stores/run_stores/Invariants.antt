use Rattle.trace_runner.specs.StoreRuns.{RanBelow}
use Rattle.trace_runner.proofs.section_stores.run_stores.Given as goal

abbrev pub invariant-loop-number : goal.invariant-loop-number
invariant-loop-number g l =
    RanBelow g.L.ReplyLog.keeps l.fn.machine l.number l.lines l.later l.logs.items
