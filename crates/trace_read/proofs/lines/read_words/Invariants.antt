use Rattle.trace_read.specs.TextLines.{texts}
use Rattle.trace_read.proofs.Words.{AreReadTo}
use Rattle.trace_read.proofs.lines.read_words.Given as goal

abbrev pub invariant-loop-i : goal.invariant-loop-i
invariant-loop-i l = AreReadTo l.line (texts l.words.items) l.start l.i
