use Rattle.hardware_walk.proofs.Whole.{translations}
use Rattle.hardware_walk.proofs.laws.translations_are_current.Goals as goal

pub returns : goal.returns
returns c = translations
