-- The line and the exit status for each verdict on a judged text.
use Rattle.std.specs.Prelude.{◌≡◌, List, ℕ, ◌++◌, codes}
use Rattle.std.specs.Fmt.{decimal}
use Rattle.history_check.specs.declared.verdict.Verdict.{Verdict}
use Rattle.history_check.specs.declared.verdict.Verdict.TheVariants as verdicts
use Rattle.history_check.specs.Verdict.{IsVerdict}
use Rattle.trace_read.specs.Trace.{IsAccepted}
use Rattle.papr_edge.specs.Inputs.{JudgedInput}
use Rattle.papr_edge.specs.declared.status.Status.{Status}
use Rattle.papr_edge.specs.declared.status.Status.TheVariants.{Done, CheckNo}

-- The line that states a verdict.
abbrev pub verdict_text : Verdict → List ℕ
verdict_text verdicts.Good = codes "good\n"
verdict_text (verdicts.Bad section) = codes "bad section " ++ decimal section ++ codes "\n"

-- The status that comes with a verdict.
abbrev pub status_with : Verdict → Status
status_with verdicts.Good = Done
status_with (verdicts.Bad section) = CheckNo

-- The line that states the verdict on the text that was read, for a trace that keeps the limits;
-- Good comes with Done, Bad with CheckNo.
pub record IsVerdictText (input : JudgedInput) (status : Status) (text : List ℕ) : Type 0 where
  pub accepted : IsAccepted input.trace
  pub verdict : Verdict
  pub judged : IsVerdict input.trace input.text verdict
  pub comes : status ≡ status_with verdict
  pub is : text ≡ verdict_text verdict
