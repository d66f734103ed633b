use Rattle.hpt_walk.proofs.ActualPages.{other_page}
use Rattle.hpt_walk.proofs.laws.other_pages_dont_match.Goals as goal

pub returns : goal.returns
returns c = other_page
