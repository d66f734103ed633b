-- What a parallel run of a trace gives: the replies of a good run, or their text.
use Rattle.std.specs.Prelude.{◌≡◌, ℕ, List}
use Rattle.trace_read.specs.Trace.{AcceptedTrace}
use Rattle.trace_reply.specs.declared.reply.Reply.{Reply}
use Rattle.trace_reply.specs.Replies.{AreReplies}
use Rattle.run_model.specs.SerialRun.{serial_replies}
use Rattle.run_model.specs.GoodRun.{IsGoodRun}
use Rattle.run_model.specs.Assurances.{Assures}
use Rattle.run_model.specs.Laws.{HasOneProcessor}
use Rattle.reply_text.specs.Text.{text_of}
use Rattle.trace_runner.specs.Workers.{Keeping}

-- An output has the replies of a good run, which are those of the serial run where one processor
-- has all lines.
pub record IsOutputOfRun
    {O : Type 0}
    (has : Keeping O)
    (t : AcceptedTrace)
    (output : O)
    : Type 0
  where
    pub replies : List Reply
    pub put : has output t.lines replies
    pub kinds : AreReplies t.lines replies
    pub good : IsGoodRun t replies
    pub assured : Assures t replies
    pub one : (cpu : ℕ) → HasOneProcessor cpu t.lines → replies ≡ serial_replies t

-- The text of the replies of a good run, which are those of the serial run where one processor
-- has all lines.
pub record IsTextOfRun (t : AcceptedTrace) (bytes : List ℕ) : Type 0 where
  pub replies : List Reply
  pub text : bytes ≡ text_of t replies
  pub kinds : AreReplies t.lines replies
  pub good : IsGoodRun t replies
  pub assured : Assures t replies
  pub one : (cpu : ℕ) → HasOneProcessor cpu t.lines → replies ≡ serial_replies t
