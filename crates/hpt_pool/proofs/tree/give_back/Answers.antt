use Rattle.std.proofs.Common.{◌^◌, ◌<◌, length, sym, ap, arith}
use Rattle.std.proofs.lemmas.List.{get_or-set_same}
use Rattle.hpt_pool.specs.declared.tree.Node.TheVariants.{Taken, Open}
use Rattle.hpt_pool.specs.Tree.{largest_of}
use Rattle.hpt_pool.proofs.Giving.{GivesBack}
use Rattle.hpt_pool.proofs.GivingWay.{IsHeld, is_held, gives_at, gives_stands, gives_here}
use Rattle.hpt_pool.proofs.tree.give_back.Goals as goal

-- ---- where the block lies
held : (c : goal.Start) → IsHeld c.args.height c.args.place c.args.given c.args.order
held c =
    is_held c.args.height c.args.place c.args.given c.args.order c.args.nodes.now c.requires.taken

pub overflow_sub-depth : goal.overflow_sub-depth
overflow_sub-depth c = (held c).most

pub overflow_sub-turns : goal.overflow_sub-turns
overflow_sub-turns c = (held c).from

pub overflow_shr-turns : goal.overflow_shr-turns
overflow_shr-turns c =
    let here = held c in let small = here.most in let most = c.requires.most in omega arith

pub by_turns-spot-requires-clause-turns : goal.by_turns-spot-requires-clause-turns
by_turns-spot-requires-clause-turns c = (held c).turns_below

-- ---- its node
stands :
    (c : goal.After-by_turns-spot)
    → (c.by_turns-spot.result.index < length c.args.nodes.now) × (length c.args.nodes.now < 2 ^ 32)
stands c =
    gives_stands _ _ _ _ _ _ _ c.args.nodes.now c.requires.tree c.requires.most c.requires.least
    c.requires.taken c.by_turns-spot.ensures.height c.by_turns-spot.ensures.turns
    c.by_turns-spot.ensures.way

pub offset_bounds-nodes-spot : goal.offset_bounds-nodes-spot
offset_bounds-nodes-spot c =
    let at = stands c in let inside = at.0 in let small = at.1 in omega arith

pub bounds-nodes-spot : goal.bounds-nodes-spot
bounds-nodes-spot c = (stands c).0

pub mend_above-requires-clause-said : goal.mend_above-requires-clause-said
mend_above-requires-clause-said c =
    let at = gives_stands _ _ _ _ _ _ _ c.args.nodes.now c.requires.tree c.requires.most
    c.requires.least c.requires.taken c.by_turns-spot.ensures.height
    c.by_turns-spot.ensures.turns c.by_turns-spot.ensures.way in
    ap largest_of
    (sym
    (get_or-set_same c.args.nodes.now c.by_turns-spot.result.index (Open c.args.order)
    Taken at.0))

-- ---- the tree after
given :
    (c : goal.After-nodes-1)
    → GivesBack c.args.height c.args.place c.args.given c.args.nodes.now c.mend_above.new.nodes
given c =
    let lower = c.by_turns-spot.ensures.height in
    let small = (is_held _ c.args.place _ _ c.args.nodes.now c.requires.taken).most in
    let least = c.requires.least in
    gives_here c.args.height c.args.place c.args.given c.args.order c.by_turns-spot.result.height
    c.by_turns-spot.result.index c.by_turns-spot.result.turns _ c.args.nodes.now
    c.mend_above.new.nodes
    (gives_at c.args.height c.args.place c.args.given c.args.order c.by_turns-spot.result.height
    c.by_turns-spot.result.index c.by_turns-spot.result.turns c.args.nodes.now c.requires.tree
    c.requires.least c.requires.taken c.by_turns-spot.ensures.height
    c.by_turns-spot.ensures.turns c.by_turns-spot.ensures.way)
    (omega arith) c.mend_above.ensures

pub returns-clause-given : goal.returns-clause-given
returns-clause-given c = (given c).given_back

pub returns-clause-tree : goal.returns-clause-tree
returns-clause-tree c = (given c).tree
