-- A list of replies with room for further ones.
use Rattle.std.specs.Prelude.{ℕ, List}
use Rattle.trace_reply.specs.declared.reply.Reply.{Reply}

-- The replies, and how many more there is room for.
pub record ReplyList : Type 0 where
  pub items : List Reply
  pub spare : ℕ
