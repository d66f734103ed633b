use Rattle.hpt_walk.proofs.Telling.{tells_page}
use Rattle.hpt_walk.proofs.laws.access_tells_page.Goals as goal

pub returns : goal.returns
returns c = tells_page
