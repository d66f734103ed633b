use Rattle.hpt_walk.proofs.ActualPages.{in_actual_page}
use Rattle.hpt_walk.proofs.laws.addresses_lie_in_actual_pages.Goals as goal

pub returns : goal.returns
returns c = in_actual_page
