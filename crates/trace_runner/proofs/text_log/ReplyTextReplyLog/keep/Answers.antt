use Rattle.std.proofs.Common.{arith, string_bytes}
use Rattle.std.proofs.lemmas.Str.{IsUtf8-string_bytes}
use Rattle.trace_reply.specs.Slots.{reply_in}
use Rattle.trace_runner.proofs.TextLogs.{on_ok, no_dump, room_text, room_end, room_after, keeps_more}
use Rattle.trace_runner.proofs.text_log.ReplyTextReplyLog.keep.Goals as goal

pub unwrap-requires : goal.unwrap-requires
unwrap-requires c =
    c.put_slot.ensures.fits
    (no_dump c.args.line.now.act (reply_in c.args.slot.now) c.requires.kind
    c.requires.not_quiet) (room_text _ _ _ c.requires.room)

pub push_back_reserved-requires : goal.push_back_reserved-requires
push_back_reserved-requires c = let some = room_end _ _ _ c.requires.room in omega (arith, some)

pub returns-clause-kept : goal.returns-clause-kept
returns-clause-kept c ls rs h =
    let old = c.args.self.now in
    let new = c.put_slot.new.out in
    let ok = c.put_slot.ensures.fits
    (no_dump c.args.line.now.act (reply_in c.args.slot.now) c.requires.kind
    c.requires.not_quiet) (room_text _ _ _ c.requires.room) in
    keeps_more (string_bytes old.text) (string_bytes new) old.ends.items
    c.push_back_reserved.new.self.items old.start c.len.result ls rs c.args.line.now
    (reply_in c.args.slot.now) (on_ok _ _ ok c.put_slot.ensures.text)
    (IsUtf8-string_bytes new) (omega (arith, c.len.ensures, new.bytes.ok.0))
    c.push_back_reserved.ensures.items h

pub returns-clause-room : goal.returns-clause-room
returns-clause-room c =
    let dump = no_dump c.args.line.now.act (reply_in c.args.slot.now) c.requires.kind
    c.requires.not_quiet in
    let ok = c.put_slot.ensures.fits dump (room_text _ _ _ c.requires.room) in
    room_after _ _ _ _ _ _ c.put_slot.ensures.capacity
    (on_ok _ _ ok (c.put_slot.ensures.short dump))
    (omega (arith, c.push_back_reserved.ensures.len, c.push_back_reserved.ensures.capacity))
