use Rattle.std.proofs.Common.{sym, ap, subst}
use Rattle.history_check.specs.Verdict.{IsVerdict}
use Rattle.trace_read.specs.Trace.{IsAccepted}
use Rattle.papr_edge.specs.Inputs.{JudgedInput}
use Rattle.papr_top.specs.Judging.{status_with}
use Rattle.papr_top.proofs.judging.verdict_answer.Goals as goal

pub returns-in-Good : goal.returns-in-Good
returns-in-Good c =
    let verdict = c.in_ok-verdict.verdict in
    let inside : IsVerdict c.input.inside.trace c.input.inside.text.items verdict = rw
    c.deref.ensures.value at c.in_ok-verdict.ensures in
    record {
      accepted =
          subst (λ (input : JudgedInput). IsAccepted input.trace) c.input.view_is
          c.keeps_limits.ensures;
      verdict = verdict;
      judged =
          subst (λ (input : JudgedInput). IsVerdict input.trace input.text verdict)
          c.input.view_is inside;
      comes = sym (ap status_with c.in-Good.is);
      is = c.in_ok-line.ensures;
    }

pub returns-in-Bad : goal.returns-in-Bad
returns-in-Bad c =
    let verdict = c.in_ok-verdict.verdict in
    let inside : IsVerdict c.input.inside.trace c.input.inside.text.items verdict = rw
    c.deref.ensures.value at c.in_ok-verdict.ensures in
    record {
      accepted =
          subst (λ (input : JudgedInput). IsAccepted input.trace) c.input.view_is
          c.keeps_limits.ensures;
      verdict = verdict;
      judged =
          subst (λ (input : JudgedInput). IsVerdict input.trace input.text verdict)
          c.input.view_is inside;
      comes = sym (ap status_with c.in-Bad.is);
      is = c.in_ok-line.ensures;
    }
