use Rattle.hpt_walk.proofs.Walks.{walk_gives}
use Rattle.hpt_walk.proofs.laws.walks_give_lines.Goals as goal

pub returns : goal.returns
returns c = walk_gives
