use Rattle.std.proofs.Common.{◌∙◌}
use Rattle.std.specs.Int.Bits.{and_zero_r}
use Rattle.std.proofs.lemmas.Nat.{and_assoc}
use Rattle.entry_model.proofs.answering.entered.Goals as goal

pub invariant_of-result : goal.invariant_of-result
invariant_of-result c = record {
  apart = and_assoc 0x180 c.args.dword1 0xFFFFFFFFFFFFFE7F ∙ and_zero_r c.args.dword1;
  no_first = λ e. cc;
  no_second = λ e. cc;
  no_reference = λ e. cc;
  no_change = λ e. cc;
}
