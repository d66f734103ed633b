use Rattle.std.proofs.Common.{◌≡◌, zero, suc, ◌+◌, ◌-◌, ◌^◌, ◌<◌, length, refl, sym, ap, ◌∙◌, subst, arith}
use Rattle.std.proofs.lemmas.List.{get_or-set_same}
use Rattle.hpt_pool.specs.declared.tree.Node.TheVariants.{Taken, Open}
use Rattle.hpt_pool.specs.Tree.{largest_of}
use Rattle.hpt_pool.specs.Way.{JoinsAt, AreMended}
use Rattle.hpt_pool.proofs.Ways.{GoesUp, is_half, way_up, mended_up, joins_at, StandsIn, stands_in, other_stands}
use Rattle.hpt_pool.proofs.tree.mend_above.Goals as goal

pub above-above-requires-clause-left : goal.above-above-requires-clause-left
above-above-requires-clause-left c even =
    let up = is_half c.args.height c.loop-spot.spot.height c.loop-spot.spot.index
    c.loop-spot.spot.turns c.loop-spot-test.true c.loop-spot.invariant.way in
    let is = up.1.left even in
    omega arith

pub above-above-requires-clause-right : goal.above-above-requires-clause-right
above-above-requires-clause-right c odd =
    let up = is_half c.args.height c.loop-spot.spot.height c.loop-spot.spot.index
    c.loop-spot.spot.turns c.loop-spot-test.true c.loop-spot.invariant.way in
    let is = up.1.right odd in
    let same : 2 ^ (c.loop-spot.spot.height + 1) ≡ 2 ^ suc c.loop-spot.spot.height = ap (λ n. 2 ^ n)
    (omega arith) in
    omega arith

-- ---- where the nodes stand
pub other-requires-clause-index : goal.other-requires-clause-index
other-requires-clause-index c =
    let up : GoesUp c.args.height c.loop-spot.spot.height c.loop-spot.spot.index
    c.loop-spot.spot.turns c.above-above.result.height c.above-above.result.index
    c.above-above.result.turns = record {
      low = c.loop-spot-test.true;
      next = c.above-above.ensures.height;
      half = c.above-above.ensures.half;
      turns_are = c.above-above.ensures.turns;
    } in
    let stands = stands_in _ _ _ _ _ _ _ c.args.nodes.now c.loop-spot.nodes c.requires.most
    c.loop-spot.auto.nodes c.requires.whole c.loop-spot.invariant.way up in
    let itself = stands.itself in
    let small = stands.small in
    omega arith

-- The other half of the block above is in the list of nodes too.
stand_other :
    (c : goal.After-other)
    → (c.other.result < length c.loop-spot.nodes) × (length c.loop-spot.nodes < 2 ^ 32)
stand_other c =
    let up : GoesUp c.args.height c.loop-spot.spot.height c.loop-spot.spot.index
    c.loop-spot.spot.turns c.above-above.result.height c.above-above.result.index
    c.above-above.result.turns = record {
      low = c.loop-spot-test.true;
      next = c.above-above.ensures.height;
      half = c.above-above.ensures.half;
      turns_are = c.above-above.ensures.turns;
    } in
    let stands = stands_in _ _ _ _ _ _ _ c.args.nodes.now c.loop-spot.nodes c.requires.most
    c.loop-spot.auto.nodes c.requires.whole c.loop-spot.invariant.way up in (
      other_stands c.loop-spot.spot.turns c.above-above.result.height c.above-above.result.index
          c.other.result c.loop-spot.nodes stands c.other.ensures.left c.other.ensures.right,
      stands.small,
    )

pub offset_bounds-nodes-other : goal.offset_bounds-nodes-other
offset_bounds-nodes-other c =
    let stands = stand_other c in let inside = stands.0 in let small = stands.1 in omega arith

pub slice_copy_out-largest : goal.slice_copy_out-largest
slice_copy_out-largest c = (stand_other c).0

-- ---- what the node above is made to say
goes :
    (c : goal.After-joined-largest)
    → GoesUp c.args.height c.loop-spot.spot.height c.loop-spot.spot.index c.loop-spot.spot.turns
    c.above-above.result.height c.above-above.result.index c.above-above.result.turns
goes c =
    record {
      low = c.loop-spot-test.true;
      next = c.above-above.ensures.height;
      half = c.above-above.ensures.half;
      turns_are = c.above-above.ensures.turns;
    }

stand :
    (c : goal.After-joined-largest)
    → StandsIn c.above-above.result.height c.above-above.result.index c.loop-spot.nodes
stand c =
    stands_in _ _ _ _ _ _ _ c.args.nodes.now c.loop-spot.nodes c.requires.most
    c.loop-spot.auto.nodes c.requires.whole c.loop-spot.invariant.way (goes c)

pub offset_bounds-nodes-above : goal.offset_bounds-nodes-above
offset_bounds-nodes-above c =
    let stands = stand c in let itself = stands.itself in let small = stands.small in omega arith

pub bounds-nodes-above : goal.bounds-nodes-above
bounds-nodes-above c = (stand c).itself

joins :
    (c : goal.After-joined-largest)
    → JoinsAt (suc c.loop-spot.spot.height) c.above-above.result.index c.loop-spot.nodes
    c.joined-largest.result
joins c =
    let next = c.above-above.ensures.height in
    joins_at c.loop-spot.spot.height c.loop-spot.spot.index c.loop-spot.spot.turns
    c.above-above.result.index c.other.result c.loop-spot.largest c.largest-other.result
    c.joined-largest.result c.loop-spot.nodes c.above-above.ensures.half
    (λ even. c.other.ensures.left even ∙ ap (λ n. c.above-above.result.index + 2 ^ n) next)
    c.other.ensures.right
    c.loop-spot.invariant.said c.largest-other.ensures c.joined-largest.ensures

pub loop-spot-preserved : goal.loop-spot-preserved
loop-spot-preserved c =
    let low = c.loop-spot-test.true in
    let next = c.above-above.ensures.height in
    record {
      low = omega arith;
      way = way_up _ _ _ _ _ _ _ (goes c) c.loop-spot.invariant.way;
      said =
          ap largest_of
          (sym
          (get_or-set_same c.loop-spot.nodes c.above-above.result.index
          (Open c.joined-largest.result) Taken (stand c).itself));
      rest =
          λ after mended.
          c.loop-spot.invariant.rest after
          (mended_up c.args.height c.loop-spot.spot.height c.loop-spot.spot.index
          c.loop-spot.spot.turns c.above-above.result.height c.above-above.result.index
          c.above-above.result.turns c.joined-largest.result c.loop-spot.nodes after
          (goes c) (joins c) mended);
    }

-- ---- the root is reached
pub returns : goal.returns
unfolding AreMended
returns c =
    let low = c.loop-spot.invariant.low in
    let high = c.loop-spot-test.false in
    c.loop-spot.invariant.rest c.loop-spot.nodes
    (subst
    (λ n.
    AreMended n c.loop-spot.spot.height c.loop-spot.spot.index c.loop-spot.spot.turns
    c.loop-spot.nodes c.loop-spot.nodes)
    (let e : zero ≡ c.args.height - c.loop-spot.spot.height = omega arith in e) refl)
