use Rattle.std.proofs.Common.{◌≡◌}
use Rattle.trace_read.specs.Grammar.{after_lines, trace_of}
use Rattle.trace_read.specs.Rest.{parts_left, rest_size}
use Rattle.trace_read.proofs.parser.parse.Given as goal

abbrev pub invariant-loop-rest : goal.invariant-loop-rest
invariant-loop-rest l = trace_of l.bytes ≡ after_lines l.reader (parts_left l.rest)

abbrev pub decreases-loop-rest : goal.decreases-loop-rest
decreases-loop-rest l = rest_size l.rest
