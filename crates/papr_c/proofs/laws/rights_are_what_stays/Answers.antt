use Rattle.papr_c.proofs.RightsLaws.{rights_stay}
use Rattle.papr_c.proofs.laws.rights_are_what_stays.Goals as goal

pub returns : goal.returns
returns c = rights_stay
