use Rattle.std.proofs.Common.{arith}
use Rattle.trace_gen.proofs.Drawing.{one_segment_more, all_segments}
use Rattle.trace_gen.proofs.trace.push_segments.Goals as goal

pub loop-cpu-preserved : goal.loop-cpu-preserved
loop-cpu-preserved c =
    one_segment_more c.args.list.now c.loop-cpu.list c.push.new.self c.loop-cpu.cpu c.segment.result
    c.loop-cpu.invariant c.segment.ensures c.in_ok-push.ensures.ok

pub returns : goal.returns
returns c =
    all_segments c.args.list.now c.loop-cpu.list c.loop-cpu.cpu c.loop-cpu.invariant
    (omega (arith, c.loop-cpu-test.false, c.loop-cpu.auto.cpu-end))
