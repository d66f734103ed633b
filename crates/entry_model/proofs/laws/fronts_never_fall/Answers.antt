use Rattle.entry_model.proofs.FrontLaws.{keeps_below}
use Rattle.entry_model.proofs.laws.fronts_never_fall.Goals as goal

pub returns : goal.returns
returns c = keeps_below
