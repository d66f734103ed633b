use Rattle.std.proofs.Common.{◌≡◌, length}
use Rattle.trace_runner.proofs.DealtLines.{AreDealtUpTo}
use Rattle.trace_runner.proofs.dealt_processors.deal_lines.Given as goal

abbrev pub invariant-loop-i : goal.invariant-loop-i
invariant-loop-i l = record {
  size : length l.dealt.items ≡ l.cpus;
  dealt : AreDealtUpTo l.i l.lines l.dealt.items;
}
