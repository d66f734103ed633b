-- The text of a set's replies: each line has the partition's number before it, the lines of a
-- dump's entries too.
use Rattle.std.specs.Prelude.{ℕ, List, [], ◌∷◌, ◌++◌, length, codes}
use Rattle.std.specs.List.{flat_map}
use Rattle.std.specs.Fmt.{decimal}
use Rattle.entry_model.specs.State.{State}
use Rattle.reply_text.specs.Text.{reply_text, dump_head, table_text, entry_text}
use Rattle.trace_line.specs.declared.line.TraceLine.{TraceLine}
use Rattle.trace_reply.specs.declared.reply.Reply.{Reply}
use Rattle.trace_reply.specs.declared.reply.Reply.TheVariants as replies
use Rattle.lpar_set.specs.declared.turn.Turn.{Turn}
use Rattle.lpar_set.specs.SetTrace.{AcceptedSet, partition_at, line_of}

-- The partition's number, and a space.
abbrev pub number_text : ℕ → List ℕ
number_text number = decimal number ++ codes " "

-- The line of an entry in a dump.
abbrev pub numbered_entry : ℕ → ℕ × State → List ℕ
numbered_entry number x = number_text number ++ entry_text x

-- The text of a reply of this partition.
abbrev pub numbered_reply : ℕ → TraceLine → Reply → List ℕ
numbered_reply number l (replies.Dump shown) =
    number_text number
    ++ dump_head l.number
    ++ table_text shown.number shown.order shown.place (length shown.states)
    ++ flat_map (numbered_entry number) shown.states
numbered_reply number l other = number_text number ++ reply_text l other

-- The texts of replies to these turns, in file order.
abbrev pub text_from : AcceptedSet → List Turn → List Reply → List ℕ
text_from s [] rs = []
text_from s (t ∷ ts) [] = []
text_from s (t ∷ ts) (r ∷ rs) =
    numbered_reply (partition_at s t.partition).number (line_of s t) r ++ text_from s ts rs

-- The text of a run of the set with these replies.
abbrev pub set_text : AcceptedSet → List Reply → List ℕ
set_text s rs = text_from s s.turns rs
