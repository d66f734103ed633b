-- Lines with their replies, and the receipts of lines, one line after the other.
use Rattle.std.proofs.Common.{◌*◌, ◌≤◌, List, [], ◌∷◌, length, arith, ◌≡◌, ◌++◌, refl, ap}
use Rattle.std.specs.List.{AllByRecursion}
use Rattle.trace_reply.specs.declared.reply.Reply.{Reply}
use Rattle.trace_line.specs.declared.line.TraceLine.{TraceLine}
use Rattle.entry_model.specs.declared.receipt.Receipt.{Receipt}
use Rattle.entry_model.proofs.Heights.{weight, weight_append}
use Rattle.trace_reply.specs.Replies.{RepliedLine, receipts_in, AreReplies, lines_with_replies}
use Rattle.run_model.specs.Histories.{receipts_by}
use Rattle.basics.proofs.Each.{each_append, each_front, each_back}

-- The replies of lines and of further ones, where the first have replies of their kinds.
pub lines_append :
    (ls ms : List TraceLine) (rs qs : List Reply)
    → AreReplies ls rs
    → lines_with_replies (ls ++ ms) (rs ++ qs)
    ≡ lines_with_replies ls rs ++ lines_with_replies ms qs
lines_append [] ms [] qs h = refl
lines_append [] ms (r ∷ rs) qs h = absurd h
lines_append (l ∷ ls) ms [] qs h = absurd h
lines_append (l ∷ ls) ms (r ∷ rs) qs h =
    ap (λ ts. record { line = l; reply = r } ∷ ts) (lines_append ls ms rs qs h.1)

-- What holds of each receipt of each line holds of each receipt; and back.
pub each_receipt :
    (Q : Receipt → Type 0) (ts : List RepliedLine)
    → AllByRecursion (λ (t : RepliedLine). AllByRecursion Q (receipts_in t.reply)) ts
    → AllByRecursion Q (receipts_by ts)
each_receipt Q [] h = tt
each_receipt Q (t ∷ ts) h =
    each_append Q (receipts_in t.reply) (receipts_by ts) h.0 (each_receipt Q ts h.1)

pub receipts_of_each :
    (Q : Receipt → Type 0) (ts : List RepliedLine)
    → AllByRecursion Q (receipts_by ts)
    → AllByRecursion (λ (t : RepliedLine). AllByRecursion Q (receipts_in t.reply)) ts
receipts_of_each Q [] h = tt
receipts_of_each Q (t ∷ ts) h = (
  each_front Q (receipts_in t.reply) (receipts_by ts) h,
  receipts_of_each Q ts (each_back Q (receipts_in t.reply) (receipts_by ts) h),
)

-- Lines that raise few stamps do so together.
pub weight_by_lines :
    (ts : List RepliedLine)
    → AllByRecursion (λ (t : RepliedLine). weight (receipts_in t.reply) ≤ 32) ts
    → weight (receipts_by ts) ≤ 32 * length ts
weight_by_lines [] h = omega arith
weight_by_lines (t ∷ ts) h =
    let few : weight (receipts_in t.reply) ≤ 32 = h.0 in
    omega (arith, weight_append (receipts_in t.reply) (receipts_by ts), weight_by_lines ts h.1)
