use Rattle.std.proofs.Common.{◌<◌, length, get_or, refl, ◌∙◌, arith}
use Rattle.c_layout.proofs.Filling.{put_item, put_all}
use Rattle.c_layout.proofs.reply.put_words.Goals as goal

pub loop-i-preserved : goal.loop-i-preserved
loop-i-preserved c =
    let below : c.loop-i.i < length c.args.made.now = omega (arith, c.loop-i-test.true) in
    c.put_word.ensures
    ∙ put_item c.args.made.now c.args.slots.now c.loop-i.slots c.loop-i.i 0
    (get_or c.args.made.now c.loop-i.i 0) below c.loop-i.invariant refl

pub returns-clause-filled : goal.returns-clause-filled
returns-clause-filled c =
    c.loop-i.invariant
    ∙ put_all c.args.made.now c.args.slots.now c.loop-i.i (omega (arith, c.loop-i-test.false))
