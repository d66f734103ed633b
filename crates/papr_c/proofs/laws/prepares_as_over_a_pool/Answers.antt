use Rattle.papr_c.proofs.PoolPrepares.{prepares}
use Rattle.papr_c.proofs.laws.prepares_as_over_a_pool.Goals as goal

pub returns : goal.returns
returns c = prepares
