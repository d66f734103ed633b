use Rattle.std.proofs.Common.{arith, ◌^◌, ◌≤◌}
use Rattle.std.proofs.Math.Pow.{pow_mono}
use Rattle.pool_range.proofs.Accepted.{shifted}
use Rattle.pool_range.proofs.range.size_of.Goals as goal

pub returns-clause-size : goal.returns-clause-size
returns-clause-size c = shifted c.args.order c.requires

pub returns-clause-most : goal.returns-clause-most
returns-clause-most c =
    let most : 2 ^ c.args.order ≤ 2 ^ 34 = pow_mono {i = c.args.order} {j = 34} c.requires in
    omega (arith, shifted c.args.order c.requires)
