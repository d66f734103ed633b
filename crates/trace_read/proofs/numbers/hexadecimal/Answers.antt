use Rattle.std.proofs.Common.{◌∙◌, arith}
use Rattle.trace_read.proofs.Digits.{AreRead-below, AreRead-more}
use Rattle.trace_read.proofs.numbers.hexadecimal.Goals as goal

pub overflow_mul-value : goal.overflow_mul-value
overflow_mul-value c =
    let small = AreRead-below 16 15 _ _ _ (omega arith) (omega arith) c.loop-c.invariant in
    omega arith

pub overflow_add-value : goal.overflow_add-value
overflow_add-value c =
    let small = AreRead-below 16 15 _ _ _ (omega arith) (omega arith) c.loop-c.invariant in
    omega arith

pub loop-c-preserved : goal.loop-c-preserved
loop-c-preserved c =
    AreRead-more _ _ _ _ _ (omega arith) (c.from.ensures ∙ c.digit-d.ensures) (omega arith)
    c.loop-c.invariant
