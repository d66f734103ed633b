use Rattle.run_model.proofs.EnteredEntries.{entries_can_be_entered}
use Rattle.run_model.proofs.laws.reached_entries_can_be_entered.Goals as goal

pub returns : goal.returns
returns c = entries_can_be_entered
