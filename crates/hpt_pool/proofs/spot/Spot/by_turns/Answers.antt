use Rattle.std.proofs.Common.{◌+◌, ◌*◌, ◌^◌, ◌<◌, arith}
use Rattle.std.proofs.lemmas.Nat.{ones-le, shl_below}
use Rattle.hpt_pool.proofs.Powers.{pow_most}
use Rattle.hpt_pool.proofs.Ways.{way_by_turns}
use Rattle.hpt_pool.proofs.spot.Spot.by_turns.Goals as goal

-- The nodes that the way leaves aside fit.
fits : (c : goal.After-result-1) → c.args.turns * 2 ^ (c.args.height + 1) < 2 ^ 64
fits c =
    let below = shl_below c.args.turns c.args.depth (c.args.height + 1) c.requires.turns in
    let most = c.requires.most in
    let large = pow_most (c.args.depth + (c.args.height + 1)) 17 (omega arith) in
    omega arith

pub overflow_sub-result : goal.overflow_sub-result
overflow_sub-result c =
    let few = ones-le c.args.depth c.args.turns c.requires.turns in
    let depth = c.from.ensures in
    omega arith

pub returns-clause-way : goal.returns-clause-way
returns-clause-way c =
    let few = ones-le c.args.depth c.args.turns c.requires.turns in
    let depth = c.from.ensures in
    let small = fits c in
    way_by_turns c.args.depth c.args.height _ c.args.turns c.requires.turns (omega arith)
