use Rattle.hardware_walk.proofs.Whole.{uses}
use Rattle.hardware_walk.proofs.laws.uses_are_listed.Goals as goal

pub returns : goal.returns
returns c = uses
