use Rattle.std.proofs.Common.{◌∙◌, ap, refl, sym, Some, take}
use Rattle.papr_edge.specs.Inputs.{cut_of}
use Rattle.papr_edge.proofs.CutLines.{IsCutTo, cut_at, cut_on, unwrapped}
use Rattle.papr_edge.proofs.cutting.cut.Goals as goal

pub returns-then-is_replies-clause-some : goal.returns-then-is_replies-clause-some
unfolding cut_of
returns-then-is_replies-clause-some c =
    let so_far : IsCutTo c.args.bytes.now c.loop-rest.start (Some c.in-Some.text) = rw c.in-Some.is
    at c.loop-rest.invariant in
    cut_at c.args.bytes.now c.loop-rest.start c.in-Some.text c.split_line.result.0.now
    c.split_line.result.1 so_far c.split_line.ensures.parts
    (sym c.is_replies.ensures ∙ c.if-is_replies.true)
    ∙ ap (λ x. Some (take c.loop-rest.start c.args.bytes.now, x))
    (unwrapped c.split_line.result.1 _ refl ∙ sym (ap (λ r. r.now) c.unwrap_or.ensures))

pub loop-rest-preserved : goal.loop-rest-preserved
loop-rest-preserved c =
    let so_far : IsCutTo c.args.bytes.now c.loop-rest.start (Some c.in-Some.text) = rw c.in-Some.is
    at c.loop-rest.invariant in
    cut_on c.args.bytes.now c.loop-rest.start c.in-Some.text c.split_line.result.0.now
    c.split_line.result.1 so_far c.split_line.ensures.parts c.split_line.ensures.whole
    (sym c.is_replies.ensures ∙ c.if-is_replies.false)
