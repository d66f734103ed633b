use Rattle.run_model.proofs.SideBySide.{side_by_side}
use Rattle.run_model.proofs.laws.good_side_by_side.Goals as goal

pub returns : goal.returns
returns c = side_by_side
