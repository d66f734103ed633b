use Rattle.hardware_walk.proofs.Tables.{every_history}
use Rattle.hardware_walk.proofs.laws.every_history_is_legal.Goals as goal

pub returns : goal.returns
returns c = every_history
