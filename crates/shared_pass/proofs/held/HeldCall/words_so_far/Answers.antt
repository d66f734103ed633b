use Rattle.std.proofs.Common.{ap, sym, subst, ◌∙◌}
use Rattle.call_plan.specs.Bulk.{bulk_told, pairs_of, h_bulk_remove_plan}
use Rattle.shared_pass.specs.Held.{plan_of_held, HeldFits}
use Rattle.shared_pass.proofs.held.HeldCall.words_so_far.Goals as goal

pub returns-in-Removes : goal.returns-in-Removes
unfolding h_bulk_remove_plan
returns-in-Removes c =
    let fits = subst (HeldFits c.args.order) c.in-Removes.is c.requires.fits in
    ap (λ x. x.1) c.removal_registers-words.ensures
    ∙ ap (λ n. (bulk_told n (pairs_of c.in-Removes.pairs) c.args.receipts.now).1) (sym fits)
    ∙ ap (λ call. ((plan_of_held call).told c.args.receipts.now).1) (sym c.in-Removes.is)
