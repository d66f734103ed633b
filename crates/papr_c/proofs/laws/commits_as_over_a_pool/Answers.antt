use Rattle.papr_c.proofs.PoolCommits.{commits}
use Rattle.papr_c.proofs.laws.commits_as_over_a_pool.Goals as goal

pub returns : goal.returns
returns c = commits
