use Rattle.hpt_hash.proofs.PageLemmas.{one_page}
use Rattle.hpt_hash.proofs.laws.one_page_of_an_entry.Goals as goal

pub returns : goal.returns
returns c = one_page
