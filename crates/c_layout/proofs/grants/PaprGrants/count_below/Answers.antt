use Rattle.std.proofs.Common.{arith}
use Rattle.c_layout.proofs.Searching.{above_more}
use Rattle.c_layout.proofs.grants.PaprGrants.count_below.Goals as goal

pub loop-low-preserved : goal.loop-low-preserved
loop-low-preserved c = record {
  ordered = omega (arith, c.loop-low-test.true);
  bound = omega (arith, c.loop-low-test.true, c.loop-low.invariant.bound);
  below = c.loop-low.invariant.below;
  above =
      λ k from inside.
      above_more c.args.self.now.grants c.args.self.now.count _ c.args.logical
      (c.args.self.now.in_order c.requires.few) c.if-self-middle.false k from inside;
}
