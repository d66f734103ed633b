use Rattle.std.proofs.Common.{◌≡◌, ◌∙◌, ap, length}
use Rattle.trace_read.specs.Trace.{AcceptedTrace}
use Rattle.reply_text.specs.Summary.{IsCountOf}
use Rattle.reply_text.proofs.SummarySteps.{counts_text_is}
use Rattle.reply_text.proofs.summary.summary_of.Goals as goal

pub returns : goal.returns
returns c =
    let lines : length c.as_slice-2.result.now ≡ length c.args.trace.now.lines = ap length
    c.as_slice-2.ensures ∙ ap (λ (t : AcceptedTrace). length t.lines) c.trace.view_is in
    let counted : IsCountOf c.count_replies-counts.result c.args.replies.now.items = simp
    c.as_slice.ensures at c.count_replies-counts.ensures in
    let told = counts_text_is (length c.args.trace.now.lines) c.count_replies-counts.result
    c.args.replies.now.items c.args.table.now.states counted in
    simp (lines, told) at c.summary_of_counts.ensures
