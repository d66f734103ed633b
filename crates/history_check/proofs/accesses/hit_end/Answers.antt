use Rattle.std.proofs.Common.{◌≡◌, ap, ◌∙◌, refl, Some}
use Rattle.hpte_fields.specs.Fields.{is_secondary}
use Rattle.hpt_walk.specs.Walk.{access_op}
use Rattle.hpt_walk.specs.Access.{mode_for, outcome_by}
use Rattle.run_model.specs.StoreContexts.{StoreContext, access_of}
use Rattle.history_check.proofs.HitReplies.{hit_told}
use Rattle.history_check.proofs.accesses.hit_end.Goals as goal

pub returns-clause-some : goal.returns-clause-some
returns-clause-some c =
    let seg = c.args.segment.now in
    let a = c.args.request.now in
    let r = c.in_ok-receipt.receipt in
    let asked : c.operation-op.result ≡ access_op seg.page (mode_for seg a)
    (is_secondary c.args.line.now.dword0) = c.operation-op.ensures.op ∙ ap
    (access_op seg.page (mode_for seg a)) c.secondary.ensures in
    let ends : c.outcome_at-outcome.result ≡ outcome_by c.args.context.now.grants a.ea (Some r) =
    c.outcome_at-outcome.ensures ∙ ap (λ (x : StoreContext). outcome_by x.grants a.ea (Some r))
    c.context.view_is in
    let told = hit_told (access_of c.args.context.now) seg a c.args.line.now c.operation-op.result
    c.index-found-0.result c.args.found.now r c.outcome_at-outcome.result asked
    c.in_ok-receipt.ensures.some ends c.if-found-ne1.false c.index-found-0.is in
    rw c.push.ensures (rw c.clear.ensures (refl, told.0, told.1, told.2))
