use Rattle.run_model.proofs.ParallelGood.{parallel_good}
use Rattle.run_model.proofs.laws.parallel_is_good.Goals as goal

pub returns : goal.returns
returns c = parallel_good
