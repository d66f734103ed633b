use Rattle.call_plan.specs.Single.{h_clear_ref_plan}
use Rattle.call_plan.proofs.single.clear_ref_plan.Goals as goal

pub returns-clause-plan : goal.returns-clause-plan
unfolding h_clear_ref_plan
returns-clause-plan c = c.single_plan.ensures.plan
