use Rattle.run_model.proofs.ClearedBits.{cleared_are_shown}
use Rattle.run_model.proofs.laws.clearing_replies_show.Goals as goal

pub returns : goal.returns
returns c = cleared_are_shown
