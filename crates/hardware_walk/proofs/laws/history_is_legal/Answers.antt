use Rattle.hardware_walk.proofs.Whole.{history}
use Rattle.hardware_walk.proofs.laws.history_is_legal.Goals as goal

pub returns : goal.returns
returns c = history
