use Rattle.std.proofs.Common.{◌∙◌, refl, sym, arith}
use Rattle.std.proofs.lemmas.Bool.{false≢true, eqb-true}
use Rattle.receipt_text.proofs.ReadNumbers.{read_more, no_digits, leading_zero, no_digit, too_large}
use Rattle.receipt_text.proofs.digits.number_of.Goals as goal
use Rattle.receipt_text.proofs.digits.number_of.Goals.{then-is_empty-via-then-is_empty, then-is_empty-via-else-is_empty+then-has_leading_zero}

pub returns-then-is_empty-clause-none : goal.returns-then-is_empty-clause-none
returns-then-is_empty-clause-none c =
    elim c.then-is_empty.branch [
      | then-is_empty-via-then-is_empty w ↦ λ n small is. no_digits _ n _ c.requires.low
          c.requires.high small (eqb-true _ 0 (sym c.is_empty.ensures ∙ w.if-is_empty.true)) is
      | then-is_empty-via-else-is_empty+then-has_leading_zero w ↦ λ n small is. let zero =
          w.has_leading_zero.ensures.0 w.if-has_leading_zero.true in leading_zero _ n _
          c.requires.low c.requires.high small zero.0 zero.1 is
    ]

pub returns-in_err-digit-clause-none : goal.returns-in_err-digit-clause-none
returns-in_err-digit-clause-none c =
    rw c.from_residual.ensures
    (λ n small is.
    no_digit _ n c.loop-c.c-index _ _ (omega arith) c.loop-c-test.true refl
    c.in_err-digit.ensures.none is)

pub returns-then-value-from-clause-none : goal.returns-then-value-from-clause-none
returns-then-value-from-clause-none c = λ n small is.
    let d = c.in_ok-digit.ensures.some in
    let read = read_more _ _ _ _ _ c.requires.low c.requires.high c.loop-c-test.true
    c.loop-c.invariant.small d.0 d.1
    (λ long zero.
    false≢true (sym c.if-has_leading_zero.false ∙ c.has_leading_zero.ensures.1 (long, zero)))
    c.loop-c.invariant.told in
    too_large _ n _ _ _ c.requires.low c.requires.high small
    (rw (c.from.ensures, c.from-in-loop-c.ensures, c.from-in-loop-c-2.ensures) at
    c.if-value-from.true) read is

pub loop-c-preserved : goal.loop-c-preserved
loop-c-preserved c =
    let d = c.in_ok-digit.ensures.some in
    record {
      small = omega (arith, c.if-value-from.false);
      told =
          rw (c.from.ensures, c.from-in-loop-c.ensures)
          (read_more _ _ _ _ _ c.requires.low c.requires.high c.loop-c-test.true
          c.loop-c.invariant.small d.0 d.1
          (λ long zero.
          false≢true
          (sym c.if-has_leading_zero.false
          ∙ c.has_leading_zero.ensures.1 (long, zero))) c.loop-c.invariant.told);
    }
