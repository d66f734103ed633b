use Rattle.std.specs.Prelude.{not}
use Rattle.std.proofs.Common.{◌≡◌, [], ◌∷◌, List, set, true, false, refl, ap, sym, ◌∙◌}
use Rattle.papr_codes.specs.ReturnCodes.{rc_code}
use Rattle.papr_codes.specs.declared.codes.Rc.TheVariants.{Hardware}
use Rattle.entry_model.specs.State.{State}
use Rattle.entry_model.specs.Receipt.{is_worn, receipt_of}
use Rattle.entry_model.specs.Run.{state_at, states_after}
use Rattle.entry_model.specs.declared.operation.Answer.{Answer}
use Rattle.entry_model.specs.declared.operation.Answer.TheVariants.{Worn}
use Rattle.entry_model.specs.declared.operation.Op.TheVariants.{Remove}
use Rattle.dma_window.specs.Calls.{replace_plan, code_of}
use Rattle.papr_c.specs.Calls.{memory}
use Rattle.c_layout.specs.Slots.{shown_receipt}
use Rattle.c_layout.specs.Stale.{any_stale}
use Rattle.papr_c.proofs.Outcomes.{call_tried}
use Rattle.papr_c.proofs.StaleTrials.{stale_alone, stale_pair}
use Rattle.papr_c.proofs.Tces.{first_ends, two_calls}
use Rattle.c_layout.proofs.Marks.{passed_marked, passed_both}
use Rattle.c_layout.specs.Entries.{states_of}
use Rattle.papr_c.proofs.windows.replace.Goals as goal
use Rattle.entry_model.specs.Reply.{no_test}
use Rattle.entry_model.proofs.Trials.{not_worn}

-- The code after a worn entry.
worn_code : (answer : Answer) → is_worn answer ≡ true → Hardware ≡ code_of answer
worn_code Worn is = refl
worn_code other is = cc

pub returns-then-is_worn-clause-told : goal.returns-then-is_worn-clause-told
returns-then-is_worn-clause-told c =
    let r = c.make-removed.result in
    let entries = states_of c.args.entries.now in
    let worn : is_worn r.answer ≡ true = sym c.is_worn.ensures ∙ c.if-is_worn.true in
    call_tried true (replace_plan c.args.entry c.args.op.now)
    (memory entries [] c.args.receipts.now) (r ∷ [], states_after entries r) Hardware []
    c.answered.result [] c.make-removed.new.receipts (states_of c.make-removed.new.entries)
    refl
    (first_ends not_worn (Remove no_test) c.args.op.now c.args.entry entries
    r c.make-removed.ensures.receipt (ap not worn))
    (ap (λ rc. (rc, [])) (worn_code r.answer worn))
    (c.answered.ensures
    ∙ λ k. record {
      rc = rc_code Hardware;
      words = 0;
      receipts = c.filled_count.ensures k;
      stale = (c.is_stale-stale.ensures ∙ stale_alone r) k;
    })
    refl
    c.make-removed.ensures.receipts
    c.make-removed.ensures.entries

pub returns-clause-told : goal.returns-clause-told
returns-clause-told c =
    let r = c.make-removed.result in
    let s = c.make-entered.result in
    let entries = states_of c.args.entries.now in
    let goes : is_worn r.answer ≡ false = sym c.is_worn.ensures ∙ c.if-is_worn.false in
    let stale : c.either_stale-stale.result ≡ any_stale (r ∷ s ∷ []) = c.either_stale-stale.ensures
    ∙ stale_pair r s in
    let next : s ≡ receipt_of c.args.entry (state_at (states_after entries r) c.args.entry)
    c.args.op.now = c.make-entered.ensures.receipt ∙ ap
    (λ (xs : List State). receipt_of c.args.entry (state_at xs c.args.entry) c.args.op.now)
    c.make-removed.ensures.entries in
    call_tried true (replace_plan c.args.entry c.args.op.now)
    (memory entries [] c.args.receipts.now)
    (r ∷ s ∷ [], states_after (states_after entries r) s) c.code_of.result [] c.answered-2.result []
    c.make-entered.new.receipts (states_of c.make-entered.new.entries)
    refl
    (two_calls not_worn (Remove no_test) c.args.op.now c.args.entry entries
    r s c.make-removed.ensures.receipt (ap not goes) next)
    (ap (λ rc. (rc, [])) c.code_of.ensures)
    (c.answered-2.ensures
    ∙ λ k. record {
      rc = rc_code c.code_of.result;
      words = 0;
      receipts = c.filled_count-2.ensures k;
      stale = stale k;
    })
    refl
    (c.make-entered.ensures.receipts
    ∙ ap (λ ps. set ps 1 (shown_receipt s)) c.make-removed.ensures.receipts)
    (c.make-entered.ensures.entries
    ∙ ap (λ (xs : List State). states_after xs s) c.make-removed.ensures.entries)

pub returns-then-is_worn-clause-marks : goal.returns-then-is_worn-clause-marks
returns-then-is_worn-clause-marks c =
    passed_marked c.args.entries.now c.make-removed.new.entries c.make-removed.ensures.passed

pub returns-clause-marks : goal.returns-clause-marks
returns-clause-marks c =
    passed_marked c.args.entries.now c.make-entered.new.entries
    (passed_both c.args.entries.now c.make-removed.new.entries c.make-entered.new.entries
    c.make-removed.ensures.passed c.make-entered.ensures.passed)
