use Rattle.trace_runner.proofs.ParallelAssured.{ok_text}
use Rattle.trace_runner.proofs.parallel.parallel_to_text.Goals as goal

pub returns : goal.returns
returns g c = ok_text c.args.trace.now c.run_logged.result c.run_logged.ensures
