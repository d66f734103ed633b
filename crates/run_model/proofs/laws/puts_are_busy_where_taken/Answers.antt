use Rattle.run_model.proofs.BusyLines.{puts_are_busy_where_taken}
use Rattle.run_model.proofs.laws.puts_are_busy_where_taken.Goals as goal

pub returns : goal.returns
returns c = puts_are_busy_where_taken
