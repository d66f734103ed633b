use Rattle.entry_lock.proofs.OperationLaws.{tables_open}
use Rattle.entry_lock.proofs.laws.tables_open_on_their_states.Goals as goal

pub returns : goal.returns
returns c = tables_open
