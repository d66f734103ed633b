use Rattle.std.proofs.Common.{◌≡◌, ◌-◌, ◌≤◌, List}
use Rattle.hpt_pool.specs.declared.tree.Node.{Node}
use Rattle.hpt_pool.specs.Tree.{largest_of}
use Rattle.hpt_pool.specs.Way.{node_at, IsWay, AreMended}
use Rattle.hpt_pool.proofs.tree.mend_above.Given as goal

-- What is left to be mended is what was to be mended.
abbrev pub invariant-loop-spot : goal.invariant-loop-spot
invariant-loop-spot l = record {
  low : l.spot.height ≤ l.height;
  way : IsWay (l.height - l.spot.height) l.spot.height l.spot.index l.spot.turns;
  said : l.largest ≡ largest_of (node_at l.nodes l.spot.index);
  rest :
      (after : List Node)
      → AreMended (l.height - l.spot.height) l.spot.height l.spot.index l.spot.turns l.nodes after
      → AreMended (l.height - l.fn.from.height) l.fn.from.height l.fn.from.index l.fn.from.turns
      l.fn.nodes after;
}

abbrev pub decreases-loop-spot : goal.decreases-loop-spot
decreases-loop-spot l = l.height - l.spot.height
