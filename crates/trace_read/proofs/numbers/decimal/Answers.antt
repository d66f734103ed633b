use Rattle.std.proofs.Common.{◌∙◌, arith}
use Rattle.trace_read.proofs.Digits.{AreRead-more}
use Rattle.trace_read.proofs.numbers.decimal.Goals as goal

pub loop-c-preserved : goal.loop-c-preserved
loop-c-preserved c =
    AreRead-more _ _ _ _ _ (omega arith) (c.from.ensures ∙ c.digit-d.ensures) (omega arith)
    c.loop-c.invariant
