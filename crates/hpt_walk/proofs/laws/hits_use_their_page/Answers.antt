use Rattle.hpt_walk.proofs.PageUses.{hits_use}
use Rattle.hpt_walk.proofs.laws.hits_use_their_page.Goals as goal

pub returns : goal.returns
returns c = hits_use
