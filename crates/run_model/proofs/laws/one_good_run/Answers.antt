use Rattle.run_model.proofs.OneGoodRun.{one_good_run}
use Rattle.run_model.proofs.laws.one_good_run.Goals as goal

pub returns : goal.returns
returns c = one_good_run
