use Rattle.std.proofs.Common.{◌≡◌, ◌-◌, ◌^◌, ◌∙◌, ap, refl, arith, length}
use Rattle.trace_runner.specs.Workers.{lines_of_cpu}
use Rattle.trace_runner.proofs.DealtLines.{as_many}
use Rattle.trace_runner.proofs.NewWorkers.{worker_starts, worker_idles}
use Rattle.trace_runner.proofs.new_workers.next_worker.Goals as goal
use Rattle.trace_runner.proofs.new_workers.next_worker.Goals.{then-count-gt0, else-count-gt0}

pub returns-clause-ready : goal.returns-clause-ready
returns-clause-ready g c set number lines dealt =
    let table = c.args.table.now in
    let k = c.in_ok-log.ensures in
    let size : length table.opening.items ≡ 2 ^ (table.order - 4) = ap length table.lists.opening_is
    ∙ table.sized.size in
    let same : length c.args.own.items ≡ length (lines_of_cpu number lines) = as_many lines
    c.args.own.items (lines_of_cpu number lines) dealt in
    elim c.if-count-gt0.branch [
      | then-count-gt0 w ↦ worker_starts g.L.ReplyLog.keeps g.L.ReplyLog.room set table number lines
          _ w.take_share.result c.args.cpu size c.requires.hold w.take_share.ensures.fresh
          (refl, c.of-before.ensures) w.pass-is dealt k.none
          (omega (arith, w.if-count-gt0.true, same)) (omega (arith, k.room, same))
      | else-count-gt0 w ↦ worker_idles g.L.ReplyLog.keeps g.L.ReplyLog.room set table number lines
          _ c.args.cpu c.requires.hold (refl, c.of-before.ensures) w.pass-is k.none
          (omega (arith, w.if-count-gt0.false, same))
    ]
