use Rattle.lpar_set.proofs.Together.{sets_are_assured}
use Rattle.lpar_set.proofs.laws.sets_are_assured.Goals as goal

pub returns : goal.returns
returns c = sets_are_assured
