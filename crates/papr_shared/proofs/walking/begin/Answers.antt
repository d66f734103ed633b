use Rattle.std.proofs.Common.{◌≡◌, Some, rules}
use Rattle.shared_pass.specs.declared.held.Pending.TheVariants.{Nothing}
use Rattle.shared_pass.specs.Walks.{walk_asked}
use Rattle.papr_shared.specs.Answers.{HandedWalk, handed_walk}
use Rattle.papr_shared.proofs.Endings.{walk_begun, walk_tried}
use Rattle.papr_shared.proofs.walking.begin.Goals as goal

pub returns : goal.returns
returns c =
    let x = c.args.working.now in
    let y = c.begin_walk-tried.new.self in
    let w = c.in-Some.walk in
    let h : HandedWalk = handed_walk c.args.receipts.now c.hand_over_walk.new.receipts
    c.hand_over_walk.result in
    let free : x.pending ≡ Nothing = search rules in
    let asked : walk_asked c.args.access.now ≡ Some w = search rules in
    let tried = c.begin_walk-tried.ensures in
    let over = c.hand_over_walk.ensures in
    walk_begun x.pending (walk_asked c.args.access.now) w x y h free asked
    (walk_tried w x y h c.begin_walk-tried.result tried.made over.put tried.trial tried.ended
    tried.kept tried.alone over.end over.busy)
