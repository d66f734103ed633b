-- The texts that `run`, `par` and `drill` may write of a trace, and what is assured of them.
use Rattle.std.specs.Prelude.{◌≡◌, ℕ, List, length}
use Rattle.trace_read.specs.Trace.{AcceptedTrace, IsAccepted}
use Rattle.trace_reply.specs.declared.reply.Reply.{Reply}
use Rattle.trace_reply.specs.declared.shown.Shown.{Shown}
use Rattle.run_model.specs.QuietLines.{shown_of}
use Rattle.run_model.specs.SerialRun.{serial_replies, table_after}
use Rattle.run_model.specs.GoodRun.{IsGoodRun}
use Rattle.run_model.specs.Assurances.{Assures}
use Rattle.run_model.specs.BusyCalls.{PutIsNotBusy}
use Rattle.run_model.specs.EachReplied.{EachReplied}
use Rattle.run_model.specs.Laws.{HasOneProcessor}
use Rattle.reply_text.specs.Text.{text_of}
use Rattle.reply_text.specs.Summary.{summary_text}

-- The trace keeps the limits, and the replies are a good run of it and have what good runs assure.
pub record IsAssured (t : AcceptedTrace) (rs : List Reply) : Type 0 where
  pub accepted : IsAccepted t
  pub good : IsGoodRun t rs
  pub assures : Assures t rs

-- The serial run is assured, and no H_PUT_TCE in it answers H_BUSY.
pub record IsSerialAssured (t : AcceptedTrace) : Type 0 where
  pub run : IsAssured t (serial_replies t)
  pub not_busy : EachReplied PutIsNotBusy t (serial_replies t)

-- The text of the serial run, which is assured.
pub record IsSerialText (t : AcceptedTrace) (text : List ℕ) : Type 0 where
  pub is : text ≡ text_of t (serial_replies t)
  pub assured : IsSerialAssured t

-- The text of some run that is assured: one that processors beside each other made, and the serial
-- one where one processor has all lines.
pub record IsParallelText (t : AcceptedTrace) (text : List ℕ) : Type 0 where
  pub replies : List Reply
  pub is : text ≡ text_of t replies
  pub assured : IsAssured t replies
  pub one : (cpu : ℕ) → HasOneProcessor cpu t.lines → replies ≡ serial_replies t

-- The table at the end of the serial run.
abbrev pub table_at_end : AcceptedTrace → Shown
table_at_end t =
    shown_of (table_after t.config t.lines).memory

-- The summary of the serial run of a trace, with the valid entries of the table at its end.
unfoldable pub drill_text : AcceptedTrace → List ℕ
drill_text t =
    summary_text
    (length t.lines)
    (serial_replies t)
    (table_at_end t).states
