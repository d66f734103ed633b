use Rattle.entry_model.proofs.FrontLaws.{keeps_more}
use Rattle.entry_model.proofs.laws.fronts_compose.Goals as goal

pub returns : goal.returns
returns c = keeps_more
