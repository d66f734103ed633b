use Rattle.papr_c.proofs.DecodedPages.{base_of_page}
use Rattle.papr_c.proofs.laws.base_sizes_are_the_pages.Goals as goal

pub returns : goal.returns
returns c = base_of_page
