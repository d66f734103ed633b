use Rattle.lock_core.proofs.StateSteps.{run_told}
use Rattle.lock_core.proofs.laws.states_change_by_receipts.Goals as goal

pub returns : goal.returns
returns c = λ states actors older fair i step. run_told states fair actors older i step
