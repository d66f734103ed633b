use Rattle.papr_c.proofs.RightsLaws.{causes_hold}
use Rattle.papr_c.proofs.laws.no_cause_exactly_where_allowed.Goals as goal

pub returns : goal.returns
returns c = causes_hold
