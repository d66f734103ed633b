use Rattle.hpt_walk.proofs.Unchanged.{only_at_changes}
use Rattle.hpt_walk.proofs.laws.only_at_changes_entries.Goals as goal

pub returns : goal.returns
returns c = only_at_changes
