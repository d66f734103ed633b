-- The reply that is in a slot, which the replies to many lines take in turn.
use Rattle.std.specs.Prelude.{List}
use Rattle.entry_model.specs.declared.receipt.Receipt.{Receipt}
use Rattle.entry_model.specs.Replies.{reply_with, access_reply_with, device_reply_with}
use Rattle.trace_reply.specs.declared.slot.ReplyEnd.{ReplyEnd}
use Rattle.trace_reply.specs.declared.slot.ReplySlot.{ReplySlot}
use Rattle.trace_reply.specs.declared.reply.Reply.{Reply}
use Rattle.trace_reply.specs.declared.slot.ReplyEnd.TheVariants as ends
use Rattle.trace_reply.specs.declared.reply.Reply.TheVariants as replies

-- The reply that ends so, with these receipts where it has any.
abbrev pub reply_ended : ReplyEnd → List Receipt → Reply
reply_ended (ends.Hcall registers) rs = replies.Hcall (reply_with registers rs)
reply_ended (ends.Access end) rs = replies.Access (access_reply_with end rs)
reply_ended (ends.Device outcome) rs = replies.Device (device_reply_with outcome rs)
reply_ended (ends.Segment accepted) rs = replies.Segment accepted
reply_ended ends.MaskSet rs = replies.MaskSet
reply_ended (ends.Dump shown) rs = replies.Dump shown

-- The reply that is in the slot.
abbrev pub reply_in : ReplySlot → Reply
reply_in slot = reply_ended slot.end slot.receipts
