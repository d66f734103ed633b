use Rattle.hpt_pool.proofs.TakingWay.{TakesBelow}
use Rattle.hpt_pool.proofs.tree.take_first.Given as goal

abbrev pub invariant-loop-spot : goal.invariant-loop-spot
invariant-loop-spot l =
    TakesBelow l.height l.place l.order l.nodes l.spot.height l.spot.index l.spot.turns l.first

abbrev pub decreases-loop-spot : goal.decreases-loop-spot
decreases-loop-spot l = l.spot.height
