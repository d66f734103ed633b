use Rattle.history_check.proofs.laws.earlier_sections_stand.Goals as goal
use Rattle.history_check.proofs.EarlierSections as fronts

pub returns : goal.returns
returns c = fronts.fronts_stand
