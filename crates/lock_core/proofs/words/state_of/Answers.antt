use Rattle.lock_core.proofs.Noted.{bits_cleared}
use Rattle.lock_core.proofs.words.state_of.Goals as goal

-- R and C are cleared, and the entry is valid.
pub invariant_of-result : goal.invariant_of-result
invariant_of-result c = record {
  apart = bits_cleared c.args.dword1;
  no_first = λ e. cc;
  no_second = λ e. cc;
  no_reference = λ e. cc;
  no_change = λ e. cc;
}
