use Rattle.call_plan.specs.Single.{h_remove_plan}
use Rattle.call_plan.proofs.single.remove_plan.Goals as goal

pub returns-clause-plan : goal.returns-clause-plan
unfolding h_remove_plan
returns-clause-plan c = rw c.remove_test-test.ensures at c.single_plan.ensures.plan
