use Rattle.hpt_walk.proofs.Decided.{line_matches}
use Rattle.hpt_walk.proofs.laws.lines_match_accesses.Goals as goal

pub returns : goal.returns
returns c = line_matches
