use Rattle.std.proofs.Common.{◌≡◌, ◌++◌, map}
use Rattle.std.specs.List.{range_with_len}
use Rattle.trace_gen.specs.Generated.{segment_line}
use Rattle.trace_gen.proofs.trace.push_segments.Given as goal

abbrev pub invariant-loop-cpu : goal.invariant-loop-cpu
invariant-loop-cpu l = l.list ≡ l.fn.list ++ map segment_line (range_with_len 0 l.cpu)
