use Rattle.entry_lock.proofs.StatesAtRest.{rests_close}
use Rattle.entry_lock.proofs.laws.states_at_rest_close.Goals as goal

pub returns : goal.returns
returns c = rests_close
