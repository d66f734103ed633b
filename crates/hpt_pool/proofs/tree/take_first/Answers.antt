use Rattle.std.proofs.Common.{◌+◌, ap, arith}
use Rattle.hpt_pool.proofs.Taking.{TakesFirst}
use Rattle.hpt_pool.proofs.TakingWay.{takes_from, takes_halves, takes_down_left, takes_down_right, takes_here}
use Rattle.hpt_pool.proofs.tree.take_first.Goals as goal

pub loop-spot-init : goal.loop-spot-init
loop-spot-init c =
    takes_from c.args.height c.args.place c.args.order c.args.nodes.now c.root-spot.result.height
    c.root-spot.result.index c.root-spot.result.turns c.root-spot.ensures.height
    c.root-spot.ensures.index c.root-spot.ensures.turns c.requires.tree c.requires.some

-- ---- a step down
pub slice_copy_out-largest : goal.slice_copy_out-largest
slice_copy_out-largest c =
    (takes_halves _ _ _ _ _ _ _ c.args.nodes.now c.loop-spot.invariant c.requires.most
    c.requires.tree.whole c.requires.least c.loop-spot-test.true).left

pub left-spot-requires : goal.left-spot-requires
left-spot-requires c =
    let halves = takes_halves _ _ _ _ _ _ _ c.args.nodes.now c.loop-spot.invariant c.requires.most
    c.requires.tree.whole c.requires.least c.loop-spot-test.true in
    record { least = halves.least; index = halves.index_small; turns = halves.turns_small }

pub loop-spot-preserved-then-largest-order : goal.loop-spot-preserved-then-largest-order
loop-spot-preserved-then-largest-order c =
    takes_down_left c.args.height c.args.place c.args.order c.loop-spot.spot.height
    c.left-spot.result.height c.left-spot.result.index c.left-spot.result.turns
    c.loop-spot.spot.index c.loop-spot.spot.turns c.loop-spot.first c.args.nodes.now
    c.left-spot.ensures.height c.left-spot.ensures.index c.left-spot.ensures.turns
    c.loop-spot.invariant c.requires.tree.whole c.requires.least c.loop-spot-test.true
    (let seen = c.largest.ensures in let large = c.if-largest-order.true in omega arith)

pub right-spot-requires : goal.right-spot-requires
right-spot-requires c =
    let halves = takes_halves _ _ _ _ _ _ _ c.args.nodes.now c.loop-spot.invariant c.requires.most
    c.requires.tree.whole c.requires.least c.loop-spot-test.true in
    let low = c.loop-spot.invariant.low in
    let most = c.requires.most in
    record {
      least = halves.least;
      most = omega arith;
      index = halves.index_small;
      turns = halves.turns_small;
    }

pub loop-spot-preserved : goal.loop-spot-preserved
loop-spot-preserved c =
    takes_down_right c.args.height c.args.place c.args.order c.loop-spot.spot.height
    c.right-spot.result.height c.right-spot.result.index c.right-spot.result.turns
    c.loop-spot.spot.index c.loop-spot.spot.turns c.loop-spot.first
    (c.loop-spot.first + c.bytes-first.result) c.args.nodes.now
    c.right-spot.ensures.height c.right-spot.ensures.index c.right-spot.ensures.turns
    (ap (λ n. c.loop-spot.first + n) c.bytes-first.ensures) c.loop-spot.invariant
    c.requires.tree.whole c.requires.least c.loop-spot-test.true
    (let seen = c.largest.ensures in let small = c.if-largest-order.false in omega arith)

-- ---- the block is reached
taken :
    (c : goal.After-nodes-1)
    → TakesFirst c.args.height c.args.place c.args.order c.args.nodes.now c.mend_above.new.nodes
    c.loop-spot.first
taken c =
    takes_here c.args.height c.args.place c.args.order c.loop-spot.spot.height
    c.loop-spot.spot.index c.loop-spot.spot.turns c.loop-spot.first c.args.nodes.now
    c.mend_above.new.nodes c.loop-spot.invariant c.loop-spot-test.false c.mend_above.ensures

pub returns-clause-first : goal.returns-clause-first
returns-clause-first c = (taken c).first

pub returns-clause-taken : goal.returns-clause-taken
returns-clause-taken c = (taken c).taken

pub returns-clause-tree : goal.returns-clause-tree
returns-clause-tree c = (taken c).tree
