use Rattle.std.proofs.Common.{◌≡◌, ◌*◌, length}
use Rattle.call_plan.proofs.RemovalSteps.{IsToldSoFar}
use Rattle.call_plan.proofs.bulk.removal_registers.Given as goal

-- The pairs so far were removed or not found.
abbrev pub invariant-loop-i : goal.invariant-loop-i
invariant-loop-i l = record {
  words : length l.words ≡ 2 * l.i;
  so_far : IsToldSoFar l.order l.i l.pairs l.words l.receipts;
}
