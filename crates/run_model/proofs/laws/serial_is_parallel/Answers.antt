use Rattle.run_model.proofs.SerialParallel.{serial_parallel}
use Rattle.run_model.proofs.laws.serial_is_parallel.Goals as goal

pub returns : goal.returns
returns c = serial_parallel
