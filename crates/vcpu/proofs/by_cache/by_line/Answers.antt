use Rattle.std.proofs.Common.{◌≡◌, Some, ap, ◌∙◌}
use Rattle.entry_model.specs.declared.access_reply.By.TheVariants.{Hit}
use Rattle.entry_model.specs.Receipt.{IsReceiptOf}
use Rattle.hpte_fields.specs.Fields.{is_secondary}
use Rattle.hpt_walk.specs.Walk.{access_op}
use Rattle.hpt_walk.specs.Access.{access_context, mode_for}
use Rattle.vcpu.proofs.Hits.{hit_is}
use Rattle.vcpu.proofs.by_cache.by_line.Goals as goal

pub returns-in-Some-clause-hit : goal.returns-in-Some-clause-hit
returns-in-Some-clause-hit g c =
    let asked : c.operation-op.result ≡ access_op c.args.segment.now.page
    (mode_for c.args.segment.now c.args.request.now) (is_secondary c.args.line.now.dword0) =
    c.operation-op.ensures.op ∙ ap
    (access_op c.args.segment.now.page (mode_for c.args.segment.now c.args.request.now))
    c.secondary.ensures in
    let receipt : IsReceiptOf c.args.line.now.entry
    (access_op c.args.segment.now.page (mode_for c.args.segment.now c.args.request.now)
    (is_secondary c.args.line.now.dword0)) c.in-Some.receipt = record {
      entry = c.in-Some.ensures.receipt.entry;
      op = c.in-Some.ensures.receipt.op ∙ asked;
    } in
    rw (c.push.ensures, c.clear.ensures)
    (hit_is (access_context (g.T.EntryStore.table_order c.args.store.now) c.args.grants.now.grants)
    c.args.segment.now c.args.request.now c.args.line.now c.in-Some.receipt
    c.outcome_at-outcome.result (Some Hit)
    receipt c.requires.page c.requires.translates c.in-Some.ensures.current
    c.outcome_at-outcome.ensures)
