-- What holds of each line of a trace and its reply.
use Rattle.std.specs.Prelude.{List}
use Rattle.std.specs.List.{AllByRecursion}
use Rattle.trace_line.specs.declared.act.Act.{Act}
use Rattle.trace_read.specs.Trace.{AcceptedTrace}
use Rattle.trace_reply.specs.declared.reply.Reply.{Reply}
use Rattle.trace_reply.specs.Replies.{RepliedLine, lines_with_replies}

-- Each line's act and its reply are such ones.
abbrev pub EachReplied : (Act → Reply → Type 0) → AcceptedTrace → List Reply → Type 0
EachReplied P t rs =
    AllByRecursion (λ (x : RepliedLine). P x.line.act x.reply) (lines_with_replies t.lines rs)
