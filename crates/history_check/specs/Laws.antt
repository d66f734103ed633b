-- Laws of the verdict: good runs are judged good, and a text has at most one run and one verdict.
use Rattle.std.specs.Prelude.{◌≡◌, ℕ, ◌≤◌, List, ◌++◌}
use Rattle.trace_read.specs.Trace.{AcceptedTrace, IsAccepted}
use Rattle.trace_reply.specs.declared.reply.Reply.{Reply}
use Rattle.reply_text.specs.Text.{text_of}
use Rattle.run_model.specs.GoodRun.{IsGoodRun}
use Rattle.history_check.specs.declared.verdict.Verdict.{Verdict}
use Rattle.history_check.specs.declared.verdict.Verdict.TheVariants as verdicts
use Rattle.history_check.specs.ReplyMarks.{AllShowSame}
use Rattle.history_check.specs.Verdict.{trace_to, BeginsGood, IsVerdict}

-- Two good runs of a trace with the same marks and the same ways are one.
abbrev pub OneRunHasMarks : Type 0
OneRunHasMarks =
    (t : AcceptedTrace) (rs qs : List Reply)
    → IsAccepted t
    → IsGoodRun t rs
    → IsGoodRun t qs
    → AllShowSame rs qs
    → rs ≡ qs

-- Of a text's beginnings at most one is the text of a good run of a trace, and of one run only.
abbrev pub OneRunHasText : Type 0
OneRunHasText =
    (t : AcceptedTrace) (rs qs : List Reply) (x y : List ℕ)
    → IsAccepted t
    → IsGoodRun t rs
    → IsGoodRun t qs
    → text_of t rs ++ x ≡ text_of t qs ++ y
    → rs ≡ qs

-- A text that begins with that of a good run begins with one of the trace cut after any quiet
-- line.
abbrev pub EarlierSectionsStand : Type 0
EarlierSectionsStand =
    (t : AcceptedTrace) (text : List ℕ) (k : ℕ)
    → 1 ≤ k
    → BeginsGood t text
    → BeginsGood (trace_to k t) text

-- The text of a good run has the verdict Good.
abbrev pub GoodRunsAreGood : Type 0
GoodRunsAreGood =
    (t : AcceptedTrace) (rs : List Reply)
    → IsGoodRun t rs
    → IsVerdict t (text_of t rs) verdicts.Good

-- A text has at most one verdict.
abbrev pub OneVerdict : Type 0
OneVerdict =
    (t : AcceptedTrace) (text : List ℕ) (v w : Verdict)
    → IsVerdict t text v
    → IsVerdict t text w
    → v ≡ w
