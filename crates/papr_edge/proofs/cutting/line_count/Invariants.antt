use Rattle.std.proofs.Common.{◌≡◌, ◌+◌, length}
use Rattle.trace_read.specs.TextLines.{raw_lines}
use Rattle.trace_read.specs.Rest.{parts_left, rest_size}
use Rattle.papr_edge.proofs.cutting.line_count.Given as goal

abbrev pub invariant-loop-rest : goal.invariant-loop-rest
invariant-loop-rest l = l.count + length (parts_left l.rest) ≡ length (raw_lines l.bytes)

abbrev pub decreases-loop-rest : goal.decreases-loop-rest
decreases-loop-rest l = rest_size l.rest
