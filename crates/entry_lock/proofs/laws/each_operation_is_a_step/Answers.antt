use Rattle.entry_lock.proofs.OperationLaws.{each_is_a_step}
use Rattle.entry_lock.proofs.laws.each_operation_is_a_step.Goals as goal

pub returns : goal.returns
returns c = each_is_a_step
