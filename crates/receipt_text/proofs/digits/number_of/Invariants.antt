use Rattle.std.proofs.Common.{◌^◌, ◌<◌}
use Rattle.receipt_text.proofs.ReadNumbers.{AreReadTo}
use Rattle.receipt_text.proofs.digits.number_of.Given as goal

abbrev pub invariant-loop-c : goal.invariant-loop-c
invariant-loop-c l = record {
  small : l.value < 2 ^ 32;
  told : AreReadTo l.base l.word l.c-index l.value;
}
