use Rattle.partition.proofs.OpensAgain.{opens_again}
use Rattle.partition.proofs.laws.opens_again.Goals as goal

pub returns : goal.returns
returns c = opens_again
