use Rattle.run_model.proofs.RefusedResizes.{refused_resizes_leave}
use Rattle.run_model.proofs.laws.refused_resizes_change_nothing.Goals as goal

pub returns : goal.returns
returns c = refused_resizes_leave
