use Rattle.partition.proofs.OpensWith.{opens_with_entries}
use Rattle.partition.proofs.laws.opens_with_entries.Goals as goal

pub returns : goal.returns
returns c = opens_with_entries
