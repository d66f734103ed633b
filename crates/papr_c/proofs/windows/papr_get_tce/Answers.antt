use Rattle.std.proofs.Common.{◌≡◌, [], ◌∷◌, true, false, refl, ap, sym, ◌∙◌}
use Rattle.papr_codes.specs.ReturnCodes.{rc_code}
use Rattle.papr_codes.specs.declared.codes.Rc.TheVariants.{Success}
use Rattle.entry_model.specs.Run.{states_after}
use Rattle.entry_model.specs.declared.operation.Op.TheVariants.{Read}
use Rattle.entry_model.specs.declared.receipt.Receipt.{Receipt}
use Rattle.dma_window.specs.Calls.{get_plan_at, get_tce_plan}
use Rattle.papr_c.specs.Calls.{memory}
use Rattle.c_layout.specs.Stale.{is_stale, any_stale}
use Rattle.c_layout.proofs.Filling.{placed_filled}
use Rattle.papr_c.proofs.Outcomes.{call_tried}
use Rattle.papr_c.proofs.StaleTrials.{stale_alone}
use Rattle.papr_c.proofs.Tces.{one_call, no_page, has_page}
use Rattle.c_layout.specs.Entries.{states_of}
use Rattle.c_layout.proofs.Marks.{marked_none, passed_marked}
use Rattle.papr_c.proofs.windows.papr_get_tce.Goals as goal

pub returns-in_default-clause-told : goal.returns-in_default-clause-told
unfolding get_tce_plan
returns-in_default-clause-told c =
    let m = memory (states_of c.args.entries.now) c.args.words.now c.args.receipts.now in
    ap (λ reply. (reply, m)) c.refused.ensures
    ∙ no_page c.args.base c.args.ioba m get_plan_at (sym c.entry_of.ensures.entry ∙ c.in_default.is)

pub returns-clause-told : goal.returns-clause-told
unfolding get_tce_plan
returns-clause-told c =
    let r = c.make-read.result in
    let entries = states_of c.args.entries.now in
    let m = memory entries c.args.words.now c.args.receipts.now in
    let ws = c.tce_of.result ∷ [] in
    let fresh : false ≡ any_stale (r ∷ []) = ap (λ (q : Receipt). is_stale q.answer)
    (sym c.make-read.ensures.receipt) ∙ stale_alone r in
    call_tried true (get_plan_at c.in-Some.entry) m (r ∷ [], states_after entries r) Success ws
    c.answered.result c.put_word.new.slots c.make-read.new.receipts
    (states_of c.make-read.new.entries)
    refl
    (one_call (λ answer. true) Read c.in-Some.entry entries r c.make-read.ensures.receipt)
    (ap (λ w. (Success, w ∷ [])) c.tce_of.ensures)
    (c.answered.ensures
    ∙ λ k. record {
      rc = rc_code Success;
      words = c.filled_count-shown.ensures k;
      receipts = c.filled_count-filled.ensures k;
      stale = fresh k;
    })
    (c.put_word.ensures ∙ placed_filled ws c.args.words.now)
    c.make-read.ensures.receipts
    c.make-read.ensures.entries
    ∙ has_page c.args.base c.args.ioba c.in-Some.entry m get_plan_at
    (sym c.entry_of.ensures.entry ∙ c.in-Some.is)

pub returns-in_default-clause-marks : goal.returns-in_default-clause-marks
returns-in_default-clause-marks c = marked_none c.args.entries.now

pub returns-clause-marks : goal.returns-clause-marks
returns-clause-marks c =
    passed_marked c.args.entries.now c.make-read.new.entries c.make-read.ensures.passed
