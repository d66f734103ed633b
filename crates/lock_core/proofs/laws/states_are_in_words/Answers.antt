use Rattle.lock_core.proofs.Opening.{state_in_words}
use Rattle.lock_core.proofs.laws.states_are_in_words.Goals as goal

pub returns : goal.returns
returns c = λ states actors steps fair e within. state_in_words states fair actors steps e within
