use Rattle.std.proofs.Common.{rules}
use Rattle.frame_grants.proofs.Meeting.{meet_law}
use Rattle.frame_grants.proofs.range.ranges_meet.Goals as goal

pub returns-then-is_below_end-clause-share : goal.returns-then-is_below_end-clause-share
returns-then-is_below_end-clause-share c =
    meet_law _ c.args.start c.args.length c.args.other c.args.other_length (search rules)
