use Rattle.partition.proofs.Pairing.{pairs_from_kept}
use Rattle.partition.proofs.laws.kept_translations_are_paired.Goals as goal

pub returns : goal.returns
returns c = pairs_from_kept
