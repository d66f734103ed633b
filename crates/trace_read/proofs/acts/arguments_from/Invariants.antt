use Rattle.trace_read.specs.TextLines.{texts}
use Rattle.trace_read.proofs.Arguments.{AreReadFrom}
use Rattle.trace_read.proofs.acts.arguments_from.Given as goal

abbrev pub invariant-loop-i : goal.invariant-loop-i
invariant-loop-i l = AreReadFrom (texts l.words) l.first l.i l.args
