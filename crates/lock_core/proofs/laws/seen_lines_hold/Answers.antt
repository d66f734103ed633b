use Rattle.lock_core.proofs.Opening.{seen_line}
use Rattle.lock_core.proofs.laws.seen_lines_hold.Goals as goal

pub returns : goal.returns
returns c =
    λ states actors steps fair i line within seen.
    seen_line states fair actors steps i line within seen
