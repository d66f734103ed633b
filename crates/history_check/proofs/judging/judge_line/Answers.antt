use Rattle.trace_reply.specs.Slots.{reply_in}
use Rattle.history_check.specs.FrontKeeping.{front_of}
use Rattle.history_check.proofs.OneReply.{left_not, kept_not, line_told, line_finds}
use Rattle.history_check.proofs.judging.judge_line.Goals as goal

pub returns-then-not-has_left : goal.returns-then-not-has_left
returns-then-not-has_left c = λ q rest later h same order.
    let told = rw c.in-Some.is at c.in_ok-count.ensures.some in
    left_not c.args.context.now c.args.closing.now c.args.processor.now c.args.line.now
    c.args.found.now c.args.given.now (reply_in c.line_reply.new.slot) c.in-Some.count
    c.gone_line_of-gone.result c.requires told c.gone_line_of-gone.ensures
    (c.has_left.ensures.no c.if-not-has_left.true) q rest h same

pub returns-then-not-branch : goal.returns-then-not-branch
returns-then-not-branch c = λ q rest later h same order.
    let told = rw c.in-Some.is at c.in_ok-count.ensures.some in
    kept_not c.args.context.now c.args.closing.now c.args.processor.now c.args.line.now
    c.args.found.now c.args.given.now (reply_in c.line_reply.new.slot) c.in-Some.count
    c.gone_line_of-gone.result c.receipts_of.result.now
    (front_of c.args.fronts.now c.args.opening.now) c.requires told c.gone_line_of-gone.ensures
    c.receipts_of.ensures (c.in_ok-keep_fronts.ensures.no c.if-not-branch.true) q rest later h
    same order

pub after_line-requires : goal.after_line-requires
after_line-requires c =
    let told = rw c.in-Some.is at c.in_ok-count.ensures.some in
    line_finds c.args.context.now c.args.processor.now c.args.line.now.act
    (reply_in c.line_reply.new.slot) told.0

pub returns : goal.returns
returns c =
    let told = rw c.in-Some.is at c.in_ok-count.ensures.some in
    line_told c.args.context.now c.args.closing.now c.args.processor.now c.after_line.new.cpu
    c.args.line.now c.args.found.now c.args.given.now (reply_in c.line_reply.new.slot)
    c.in-Some.count c.gone_line_of-gone.result c.receipts_of.result.now
    (front_of c.args.fronts.now c.args.opening.now)
    (front_of c.keep_fronts.new.fronts c.args.opening.now) told c.gone_line_of-gone.ensures
    (c.has_left.ensures.yes c.if-not-has_left.false) c.receipts_of.ensures
    (c.in_ok-keep_fronts.ensures.yes c.if-not-branch.false) c.after_line.ensures
