use Rattle.entry_lock.proofs.OperationLaws.{joins_are}
use Rattle.entry_lock.proofs.laws.joins_are_steps.Goals as goal

pub returns : goal.returns
returns c = joins_are
