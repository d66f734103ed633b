use Rattle.entry_model.proofs.LineLaws.{known_is_decided}
use Rattle.hpt_walk.proofs.laws.current_lines_decide.Goals as goal

pub returns : goal.returns
returns c = λ line op s. known_is_decided line s op
