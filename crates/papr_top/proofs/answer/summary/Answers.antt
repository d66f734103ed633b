use Rattle.std.proofs.Common.{◌≡◌, ◌∙◌, ap, subst, length, string_bytes, Result, Ok, Err, IfOk}
use Rattle.trace_read.specs.Trace.{AcceptedTrace}
use Rattle.run_model.specs.SerialRun.{serial_replies}
use Rattle.reply_text.specs.Summary.{count_of, counts_text, summary_text}
use Rattle.reply_text.proofs.SummarySteps.{counts_text_is}
use Rattle.trace_read.specs.Trace.{IsAccepted}
use Rattle.trace_gen.specs.Generated.{generated_trace}
use Rattle.papr_top.specs.Texts.{drill_text, IsAssured, IsSerialAssured}
use Rattle.papr_top.proofs.answer.summary.Goals as goal

-- The text from the counts is that of the replies, which a drill doesn't keep.
pub returns-clause-text : goal.returns-clause-text
unfolding drill_text
returns-clause-text c =
    let trace = c.in_ok-trace.trace in
    let run = c.in_ok-run.run' in
    let lines = length c.as_slice-lines.result.now in
    let counted : counts_text lines (count_of run.counts) run.table.states ≡ summary_text lines
    (serial_replies trace) run.table.states = counts_text_is lines run.counts
    (serial_replies trace) run.table.states c.in_ok-run.ensures.counts in
    let same : c.as_slice-lines.result.now ≡ trace.lines = c.as_slice-lines.ensures ∙ ap
    (λ (t : AcceptedTrace). t.lines) c.trace.view_is in
    let shown : summary_text lines (serial_replies trace) run.table.states ≡ drill_text trace = λ i.
    summary_text (length (same i)) (serial_replies trace) (c.in_ok-run.ensures.table i).states
    in
    subst (λ text. IfOk c.summary_of_counts.result (λ s. string_bytes s ≡ text))
    (counted ∙ shown ∙ ap drill_text c.in_ok-trace.ensures.value) c.summary_of_counts.ensures

of_each : {A E : Type 0} (r : Result A E) (P : Type 0) → P → IfOk r (λ _. P)
of_each (Ok x) P is = is
of_each (Err e) P is = tt

pub returns-clause-assured : goal.returns-clause-assured
returns-clause-assured c =
    let trace = c.in_ok-trace.trace in
    let accepted : IsAccepted trace = c.in_ok-trace.ensures.accepted in
    let run : IsAssured trace (serial_replies trace) = record {
      accepted = accepted;
      good = c.in_ok-run.ensures.good;
      assures = c.in_ok-run.ensures.assured;
    } in
    let assured : IsSerialAssured trace = record {
      run = run;
      not_busy = c.serial_puts_are_not_busy.ensures trace accepted;
    } in
    of_each c.summary_of_counts.result (IsSerialAssured (generated_trace c.args.seed c.args.lines))
    (subst IsSerialAssured c.in_ok-trace.ensures.value assured)
