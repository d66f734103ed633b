use Rattle.call_plan.specs.Single.{h_protect_plan}
use Rattle.call_plan.proofs.single.protect_plan.Goals as goal

pub returns-clause-plan : goal.returns-clause-plan
unfolding h_protect_plan
returns-clause-plan c = rw c.protect_test-test.ensures at c.single_plan.ensures.plan
