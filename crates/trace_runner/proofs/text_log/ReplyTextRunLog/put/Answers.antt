use Rattle.std.proofs.Common.{string_bytes}
use Rattle.trace_reply.specs.Slots.{reply_in}
use Rattle.trace_runner.proofs.TextLogs.{on_map, has_more}
use Rattle.trace_runner.proofs.text_log.ReplyTextRunLog.put.Goals as goal

pub returns : goal.returns
returns c =
    on_map c.put_slot.result _ _
    (λ put ls rs has.
    has_more (string_bytes c.args.text.now) (string_bytes c.put_slot.new.out) ls rs
    c.args.line.now (reply_in c.args.slot.now) put has) c.put_slot.ensures.text
