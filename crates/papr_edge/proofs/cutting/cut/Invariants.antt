use Rattle.trace_read.specs.Rest.{rest_size}
use Rattle.papr_edge.proofs.CutLines.{IsCutTo}
use Rattle.papr_edge.proofs.cutting.cut.Given as goal

abbrev pub invariant-loop-rest : goal.invariant-loop-rest
invariant-loop-rest l = IsCutTo l.bytes l.start l.rest

abbrev pub decreases-loop-rest : goal.decreases-loop-rest
decreases-loop-rest l = rest_size l.rest
