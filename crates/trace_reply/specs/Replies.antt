-- Replies to run lines: one for each line, of the line's kind, and the receipts that each has.
use Rattle.std.specs.Prelude.{Bool, true, false, List, [], ◌∷◌}
use Rattle.entry_model.specs.declared.receipt.Receipt.{Receipt}
use Rattle.trace_line.specs.declared.act.Act.{Act}
use Rattle.trace_line.specs.declared.line.TraceLine.{TraceLine}
use Rattle.trace_reply.specs.declared.reply.Reply.{Reply}
use Rattle.trace_line.specs.declared.act.Act.TheVariants as acts
use Rattle.trace_reply.specs.declared.reply.Reply.TheVariants as replies

-- A reply of the line's kind.
abbrev pub IsOfKind : Act → Reply → Type 0
IsOfKind (acts.Call number args spelt) (replies.Hcall h) = Unit {0}
IsOfKind (acts.Access want ea user) (replies.Access r) = Unit {0}
IsOfKind (acts.Device write liobn ioba) (replies.Device r) = Unit {0}
IsOfKind (acts.SlbMte rb rs) (replies.Segment accepted) = Unit {0}
IsOfKind acts.SlbClear (replies.Segment accepted) = Unit {0}
IsOfKind (acts.SetMask name value) replies.MaskSet = Unit {0}
IsOfKind acts.Dump (replies.Dump shown) = Unit {0}
IsOfKind act reply = ⊥

-- A reply that shows a table.
abbrev pub is_dump : Reply → Bool
is_dump (replies.Dump shown) = true
is_dump reply = false

-- One reply for each line, of its kind, in file order.
abbrev pub AreReplies : List TraceLine → List Reply → Type 0
AreReplies [] [] = Unit {0}
AreReplies [] (r ∷ rs) = ⊥
AreReplies (l ∷ ls) [] = ⊥
AreReplies (l ∷ ls) (r ∷ rs) = IsOfKind l.act r × AreReplies ls rs

-- The receipts of a reply, in its order.
abbrev pub receipts_in : Reply → List Receipt
receipts_in (replies.Hcall h) = h.receipts
receipts_in (replies.Access r) = r.receipts
receipts_in (replies.Device r) = r.receipts
receipts_in (replies.Segment accepted) = []
receipts_in replies.MaskSet = []
receipts_in (replies.Dump shown) = []

-- A line and its reply.
pub record RepliedLine : Type 0 where
  pub line : TraceLine
  pub reply : Reply

-- Each line with its reply.
abbrev pub lines_with_replies : List TraceLine → List Reply → List RepliedLine
lines_with_replies [] rs = []
lines_with_replies (l ∷ ls) [] = []
lines_with_replies (l ∷ ls) (r ∷ rs) = record { line = l; reply = r } ∷ lines_with_replies ls rs
