-- Under `run`, `par`, `set` and `check` no text comes with Refused.
use Rattle.std.proofs.Common.{◌≡◌, ℕ, List}
use Rattle.history_check.specs.declared.verdict.Verdict.{Verdict}
use Rattle.history_check.specs.declared.verdict.Verdict.TheVariants as verdicts
use Rattle.papr_edge.specs.declared.status.Status.TheVariants.{Refused}
use Rattle.papr_edge.specs.Inputs.{JudgedInput}
use Rattle.papr_top.specs.Judging.{IsVerdictText, status_with}

not_refused : (verdict : Verdict) → Refused ≡ status_with verdict → ⊥
not_refused verdicts.Good comes = cc
not_refused (verdicts.Bad section) comes = cc

pub verdict_told : (input : JudgedInput) (text : List ℕ) → IsVerdictText input Refused text → ⊥
verdict_told input text told = not_refused told.verdict told.comes
