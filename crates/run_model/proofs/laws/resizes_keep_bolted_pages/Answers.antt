use Rattle.run_model.proofs.SectionChain.{resizes_keep_bolted_pages}
use Rattle.run_model.proofs.laws.resizes_keep_bolted_pages.Goals as goal

pub returns : goal.returns
returns c = resizes_keep_bolted_pages
