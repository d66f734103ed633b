use Rattle.std.proofs.Common.{◌≡◌, length}
use Rattle.trace_runner.specs.DealtLines.{AllEmpty}
use Rattle.trace_runner.proofs.dealt_processors.empty_lists.Given as goal

abbrev pub invariant-loop : goal.invariant-loop
invariant-loop g l = record {
  size : length l.lists.items ≡ l.counter;
  empty : AllEmpty l.lists.items;
}
