use Rattle.std.proofs.Common.{refl, sym}
use Rattle.std.proofs.lemmas.Result.{err_from_is_err_and}
use Rattle.trace_read.proofs.Arguments.{AreReadFrom-none, AreReadFrom-more, AreReadFrom-refused, AreReadFrom-all}
use Rattle.trace_read.proofs.acts.arguments_from.Goals as goal

pub loop-i-init : goal.loop-i-init
loop-i-init c = AreReadFrom-none _ _ _ refl

pub loop-i-preserved : goal.loop-i-preserved
loop-i-preserved c =
    AreReadFrom-more _ _ _ _ _ c.loop-i-test.true (sym c.in_ok-args.ensures) c.loop-i.invariant

pub returns-in_err-args : goal.returns-in_err-args
returns-in_err-args c =
    let p = err_from_is_err_and c.from_residual.result c.from_residual.ensures.1 in
    rw (p.1, p.2)
    (sym
    (AreReadFrom-refused _ _ _ _ _ c.loop-i-test.true (sym c.in_err-args.ensures)
    c.loop-i.invariant))

pub returns : goal.returns
returns c = sym (AreReadFrom-all _ _ _ _ c.loop-i-test.false c.loop-i.invariant)
