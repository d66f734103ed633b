use Rattle.entry_model.proofs.Logged.{logged_history}
use Rattle.entry_model.proofs.laws.logged_histories_are_legal.Goals as goal

pub returns : goal.returns
returns c = logged_history
