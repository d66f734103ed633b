use Rattle.entry_lock.proofs.OperationLaws.{single_steps}
use Rattle.entry_lock.proofs.laws.operations_are_single_steps.Goals as goal

pub returns : goal.returns
returns c = single_steps
