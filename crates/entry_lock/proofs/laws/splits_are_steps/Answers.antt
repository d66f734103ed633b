use Rattle.entry_lock.proofs.OperationLaws.{splits_are}
use Rattle.entry_lock.proofs.laws.splits_are_steps.Goals as goal

pub returns : goal.returns
returns c = splits_are
