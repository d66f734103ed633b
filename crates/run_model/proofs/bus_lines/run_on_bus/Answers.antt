use Rattle.std.proofs.Common.{rules}
use Rattle.entry_model.specs.Replies.{reply_with, device_reply_with}
use Rattle.entry_model.proofs.Runs.{run-length}
use Rattle.trace_reply.specs.declared.reply.Reply.{Reply}
use Rattle.trace_reply.specs.declared.reply.Reply.TheVariants as replies
use Rattle.run_model.specs.LineReplies.{IsCallReply}
use Rattle.run_model.specs.StoreContexts.{context_on}
use Rattle.run_model.proofs.BusLines.{alone_on_bus}
use Rattle.run_model.proofs.bus_lines.run_on_bus.Goals as goal

pub returns-in-Call-clause-reply : goal.returns-in-Call-clause-reply
returns-in-Call-clause-reply c = λ p.
    let context = context_on c.args.table.now.order c.args.around.now in
    let made = c.make_call-registers in
    let r : Reply = replies.Hcall (reply_with made.result made.new.receipts) in
    let call : IsCallReply context c.args.act.now r = search rules in
    alone_on_bus context p c.args.act.now r c.args.table.now made.new.store c.requires.on_bus
    made.ensures.made call

pub returns-in-Call-clause-size : goal.returns-in-Call-clause-size
returns-in-Call-clause-size c = run-length _ _ _ c.make_call-registers.ensures.made.run

pub returns-in-Device-clause-reply : goal.returns-in-Device-clause-reply
returns-in-Device-clause-reply c = λ p.
    let context = context_on c.args.table.now.order c.args.around.now in
    let made = c.make_device_access-outcome in
    let r : Reply = replies.Device (device_reply_with made.result made.new.receipts) in
    let call : IsCallReply context c.args.act.now r = search rules in
    alone_on_bus context p c.args.act.now r c.args.table.now made.new.store c.requires.on_bus
    made.ensures.made call
