use Rattle.history_check.proofs.ReadLines.{AreReadTo}
use Rattle.history_check.proofs.reading.read_section.Given as goal

abbrev pub invariant-loop-i : goal.invariant-loop-i
invariant-loop-i l =
    AreReadTo l.context l.size l.lines l.text l.i l.rest l.steps.items l.counts.items
