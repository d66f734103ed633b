use Rattle.lock_core.proofs.Opening.{legal_history}
use Rattle.lock_core.proofs.laws.every_history_is_legal.Goals as goal

pub returns : goal.returns
returns c = λ states actors steps fair e within. legal_history states fair actors steps e within
