use Rattle.hpt_walk.proofs.PageUses.{walks_use}
use Rattle.hpt_walk.proofs.laws.walks_use_their_page.Goals as goal

pub returns : goal.returns
returns c = walks_use
