use Rattle.hpt_walk.proofs.Finding.{walk_finds}
use Rattle.hpt_walk.proofs.laws.walk_finds_first.Goals as goal

pub returns : goal.returns
returns c = walk_finds
