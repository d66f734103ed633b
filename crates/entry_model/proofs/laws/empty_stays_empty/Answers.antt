use Rattle.entry_model.proofs.ReplyLaws.{empty_untouched}
use Rattle.entry_model.proofs.laws.empty_stays_empty.Goals as goal

pub returns : goal.returns
returns c = empty_untouched
