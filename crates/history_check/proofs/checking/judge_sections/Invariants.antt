use Rattle.std.proofs.Common.{◌≤◌, length}
use Rattle.history_check.proofs.JudgedSections.{AtSection}
use Rattle.history_check.proofs.checking.judge_sections.Given as goal

abbrev pub invariant-loop-plain : goal.invariant-loop-plain
invariant-loop-plain l = record {
  reached : AtSection l.trace l.text l.standing l.run l.lines l.rest;
  number : l.run.table.memory.table.number ≤ l.standing;
}

abbrev pub decreases-loop-plain : goal.decreases-loop-plain
decreases-loop-plain l = length l.lines
