use Rattle.std.proofs.Common.{arith, ◌∙◌}
use Rattle.papr_c.proofs.Removing.{rest_none, rest_more, rest_all}
use Rattle.papr_c.proofs.removals.put_rest.Goals as goal

pub loop-i-init : goal.loop-i-init
loop-i-init c = rest_none c.args.first c.args.pairs.now c.args.words.now

pub loop-i-preserved : goal.loop-i-preserved
loop-i-preserved c =
    c.put_word.ensures
    ∙ rest_more c.args.first c.loop-i.i c.args.pairs.now c.args.words.now c.loop-i.words _
    (omega arith) (omega (arith, c.loop-i.auto)) (omega (arith, c.loop-i-test.true))
    c.loop-i.invariant

pub returns : goal.returns
returns c =
    c.loop-i.invariant
    ∙ rest_all c.args.first c.loop-i.i c.args.pairs.now c.args.words.now
    (omega arith) (omega (arith, c.loop-i-test.false))
