use Rattle.entry_lock.proofs.OperationLaws.{looks_are_none}
use Rattle.entry_lock.proofs.laws.looks_that_find_gone_are_no_steps.Goals as goal

pub returns : goal.returns
returns c = looks_are_none
