use Rattle.partition.proofs.Committing.{commit_keeps}
use Rattle.partition.proofs.laws.commit_keeps_translations.Goals as goal

pub returns : goal.returns
returns c = commit_keeps
