use Rattle.entry_model.proofs.FrontLaws.{gone_past}
use Rattle.entry_model.proofs.laws.receipts_of_gone_lines_are_later.Goals as goal

pub returns : goal.returns
returns c = gone_past
