use Rattle.std.proofs.Common.{[], ◌∷◌, true, refl, ap, ◌∙◌}
use Rattle.papr_codes.specs.ReturnCodes.{rc_code}
use Rattle.entry_model.specs.Run.{states_after}
use Rattle.entry_model.specs.declared.operation.Op.TheVariants.{Remove}
use Rattle.dma_window.specs.Calls.{clear_plan}
use Rattle.papr_c.specs.Calls.{memory}
use Rattle.papr_c.proofs.Outcomes.{call_tried}
use Rattle.papr_c.proofs.StaleTrials.{stale_alone}
use Rattle.papr_c.proofs.Tces.{one_call}
use Rattle.c_layout.proofs.Marks.{passed_marked}
use Rattle.c_layout.specs.Entries.{states_of}
use Rattle.papr_c.proofs.windows.clear.Goals as goal
use Rattle.entry_model.specs.Reply.{no_test}
use Rattle.entry_model.proofs.Trials.{not_worn}

pub returns-clause-told : goal.returns-clause-told
returns-clause-told c =
    let r = c.make-removed.result in
    let entries = states_of c.args.entries.now in
    call_tried true (clear_plan c.args.entry) (memory entries [] c.args.receipts.now)
    (r ∷ [], states_after entries r) c.code_of.result [] c.answered.result []
    c.make-removed.new.receipts (states_of c.make-removed.new.entries)
    refl
    (one_call not_worn (Remove no_test) c.args.entry entries r
    c.make-removed.ensures.receipt)
    (ap (λ rc. (rc, [])) c.code_of.ensures)
    (c.answered.ensures
    ∙ λ k. record {
      rc = rc_code c.code_of.result;
      words = 0;
      receipts = c.filled_count.ensures k;
      stale = (c.is_stale-stale.ensures ∙ stale_alone r) k;
    })
    refl
    c.make-removed.ensures.receipts
    c.make-removed.ensures.entries

pub returns-clause-marks : goal.returns-clause-marks
returns-clause-marks c =
    passed_marked c.args.entries.now c.make-removed.new.entries c.make-removed.ensures.passed
