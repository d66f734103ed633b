use Rattle.papr_c.proofs.DecodedPages.{no_cause_at_pages}
use Rattle.papr_c.proofs.laws.no_cause_exactly_at_pages.Goals as goal

pub returns : goal.returns
returns c = no_cause_at_pages
