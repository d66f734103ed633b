-- The verdict on a text of replies to a trace: good, or bad with its first bad section.
use Rattle.std.specs.Prelude.{◌≡◌, ℕ, zero, suc, ◌+◌, ◌<◌, ◌≤◌, List, [], ◌∷◌, ◌++◌, count_by, if◌then◌else◌, nat_le, MatchBool}
use Rattle.trace_line.specs.declared.line.TraceLine.{TraceLine}
use Rattle.trace_line.specs.Lines.{is_quiet}
use Rattle.trace_read.specs.Trace.{AcceptedTrace}
use Rattle.trace_reply.specs.declared.reply.Reply.{Reply}
use Rattle.reply_text.specs.Text.{text_of}
use Rattle.run_model.specs.GoodRun.{IsGoodRun}
use Rattle.history_check.specs.declared.verdict.Verdict.{Verdict}
use Rattle.history_check.specs.declared.verdict.Verdict.TheVariants as verdicts

-- ---- a trace cut after a quiet line
-- The lines up to the k-th quiet line, which is the last of them; all where there are fewer.
abbrev pub lines_to : ℕ → List TraceLine → List TraceLine
lines_to zero ls = []
lines_to (suc k) [] = []
lines_to (suc k) (l ∷ ls) = l ∷ lines_to (if is_quiet l.act then k else suc k) ls

-- The trace cut after its k-th quiet line; the whole trace past the last.
abbrev pub trace_to : ℕ → AcceptedTrace → AcceptedTrace
trace_to k t = record t { lines = lines_to k t.lines }

-- One more than the quiet lines.
abbrev pub section_count : AcceptedTrace → ℕ
section_count t = count_by (λ (l : TraceLine). is_quiet l.act) t.lines + 1

-- ---- sections
-- The text begins with the text of a good run.
abbrev pub BeginsGood : AcceptedTrace → List ℕ → Type 0
BeginsGood t text =
    (rs : List Reply) × (rest : List ℕ) × IsGoodRun t rs × (text ≡ text_of t rs ++ rest)

-- The text is that of a good run.
abbrev pub IsGoodText : AcceptedTrace → List ℕ → Type 0
IsGoodText t text = (rs : List Reply) × IsGoodRun t rs × (text ≡ text_of t rs)

-- Section k stands: the text begins with that of a good run of the lines to its end. After the
-- last section stands that nothing follows.
abbrev pub SectionStands : AcceptedTrace → List ℕ → ℕ → Type 0
SectionStands t text k =
    MatchBool
    (nat_le k (section_count t))
    (BeginsGood (trace_to k t) text)
    (IsGoodText t text)

-- ---- the verdict
-- Good where all sections stand, and nothing follows; else Bad with the first that doesn't stand.
abbrev pub IsVerdict : AcceptedTrace → List ℕ → Verdict → Type 0
IsVerdict t text verdicts.Good =
    (k : ℕ) → 1 ≤ k → k ≤ section_count t + 1 → SectionStands t text k
IsVerdict t text (verdicts.Bad n) =
    (1 ≤ n)
    × (n ≤ section_count t + 1)
    × ((k : ℕ) → 1 ≤ k → k < n → SectionStands t text k)
    × (SectionStands t text n → ⊥)
