use Rattle.lpar_set.proofs.OneSet.{lines_have_one_set}
use Rattle.lpar_set.proofs.laws.lines_have_one_set.Goals as goal

pub returns : goal.returns
returns c = lines_have_one_set
