-- The marks of a reply's receipts, and whether an access used a cached translation or a walk.
use Rattle.std.specs.Prelude.{◌≡◌, List, [], ◌∷◌, map, Option, Some, None}
use Rattle.entry_model.specs.declared.access_reply.By.{By}
use Rattle.trace_reply.specs.Replies.{receipts_in}
use Rattle.trace_reply.specs.declared.reply.Reply.{Reply}
use Rattle.trace_reply.specs.declared.reply.Reply.TheVariants as replies
use Rattle.receipt_text.specs.declared.mark.Mark.{Mark}
use Rattle.receipt_text.specs.Receipts.{mark_of}

-- The marks of a reply, in the order of its receipts.
abbrev pub marks_in : Reply → List Mark
marks_in reply = map mark_of (receipts_in reply)

-- By what an access found its entry: a cached translation or a walk. Other replies don't say.
abbrev pub way_of : Reply → Option By
way_of (replies.Access r) = r.by
way_of other = None

-- Two accesses found their entries the same way, where both say how.
abbrev pub SameWay : Option By → Option By → Type 0
SameWay (Some a) (Some b) = a ≡ b
SameWay a b = Unit {0}

-- The two replies show the same marks and the same way.
pub record ShowsSame (r q : Reply) : Type 0 where
  pub way : SameWay (way_of r) (way_of q)
  pub marks : marks_in r ≡ marks_in q

-- There are as many of one as of the other, and each shows what the other's shows.
abbrev pub AllShowSame : List Reply → List Reply → Type 0
AllShowSame [] [] = Unit {0}
AllShowSame [] (q ∷ qs) = ⊥
AllShowSame (r ∷ rs) [] = ⊥
AllShowSame (r ∷ rs) (q ∷ qs) = ShowsSame r q × AllShowSame rs qs
