use Rattle.hardware_walk.proofs.Tables.{apart}
use Rattle.hardware_walk.specs.Steps.{protocol}
use Rattle.hardware_walk.proofs.laws.entries_are_apart.Goals as goal

pub returns : goal.returns
returns c = apart protocol
