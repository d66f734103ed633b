use Rattle.hpt_pool.specs.Pool.{no_blocks}
use Rattle.hpt_pool.proofs.TreePool.{IsPoolAfter, new_pool}
use Rattle.hpt_pool.proofs.pool.Pool.within.Goals as goal

made :
    (c : goal.In_ok-nodes)
    → IsPoolAfter c.args.range.base c.args.range.order c.in_ok-nodes.nodes.items
    (no_blocks c.args.range.base c.args.range.order)
made c =
    new_pool c.args.range.base c.args.range.order c.in_ok-nodes.nodes.items c.args.range.in_range
    c.in_ok-nodes.ensures.tree c.in_ok-nodes.ensures.free

pub invariant_of-result : goal.invariant_of-result
invariant_of-result c = (made c).tree

pub returns : goal.returns
returns c = (made c).now
