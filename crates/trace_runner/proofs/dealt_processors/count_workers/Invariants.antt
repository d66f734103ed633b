use Rattle.std.proofs.Common.{◌≡◌, ◌+◌, ◌≤◌, drop}
use Rattle.trace_runner.specs.DealtLines.{count_with_own}
use Rattle.trace_runner.proofs.dealt_processors.count_workers.Given as goal

abbrev pub invariant-loop-own : goal.invariant-loop-own
invariant-loop-own l = record {
  count : l.count + count_with_own (drop l.own-index l.dealt) ≡ count_with_own l.dealt;
  low : l.count ≤ l.own-index;
}
