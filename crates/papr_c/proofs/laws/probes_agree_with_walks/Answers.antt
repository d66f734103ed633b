use Rattle.papr_c.proofs.Agreement.{probes_agree}
use Rattle.papr_c.proofs.laws.probes_agree_with_walks.Goals as goal

pub returns : goal.returns
returns c = probes_agree
