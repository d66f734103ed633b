use Rattle.hardware_walk.proofs.Whole.{words}
use Rattle.hardware_walk.proofs.laws.words_are_the_state.Goals as goal

pub returns : goal.returns
returns c = words
