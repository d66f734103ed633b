use Rattle.lpar_set.proofs.Partitions.{sets_are_of_their_lines}
use Rattle.lpar_set.proofs.laws.sets_are_of_their_lines.Goals as goal

pub returns : goal.returns
returns c = sets_are_of_their_lines
