use Rattle.trace_read.proofs.Digits.{AreRead}
use Rattle.trace_read.proofs.numbers.hexadecimal.Given as goal

abbrev pub invariant-loop-c : goal.invariant-loop-c
invariant-loop-c l = AreRead 16 l.word l.c-index l.value
