use Rattle.std.specs.Prelude.{map}
use Rattle.std.specs.Option.{option_map_or}
use Rattle.std.proofs.Common.{◌≡◌, ◌≤◌, min, length, [], ◌∷◌, Option, Bool, false, refl, arith, ap, sym, subst, ◌∙◌}
use Rattle.papr_codes.specs.ReturnCodes.{rc_code}
use Rattle.papr_codes.specs.declared.codes.Rc.TheVariants.{Success}
use Rattle.entry_model.specs.Receipt.{is_taken}
use Rattle.entry_model.specs.declared.receipt.Receipt.{Receipt}
use Rattle.entry_model.specs.Run.{states_after}
use Rattle.entry_model.specs.Trial.{ending_of, trial_run}
use Rattle.entry_model.specs.declared.operation.Op.TheVariants.{Read}
use Rattle.entry_model.proofs.TrialSteps.{calls_from}
use Rattle.call_plan.specs.Enter.{told_by_ending}
use Rattle.call_plan.proofs.Search.{told_is}
use Rattle.call_plan.specs.Plans.{goes_of, told_of, most_of, plan_of_trial, IsToldOf}
use Rattle.call_plan.proofs.TrialCalls.{trial_in}
use Rattle.c_layout.specs.Slots.{placed, shown_receipt}
use Rattle.c_layout.specs.Stale.{is_stale, any_stale}
use Rattle.papr_c.specs.Tried.{words_of_entries}
use Rattle.c_layout.proofs.Filling.{placed_filled}
use Rattle.papr_c.proofs.Outcomes.{alone, call_tried, calls_inside}
use Rattle.papr_c.proofs.Reading.{read_all, reads, words-length}
use Rattle.papr_c.proofs.StaleTrials.{stale_alone, stale_entered}
use Rattle.c_layout.specs.Entries.{states_of}
use Rattle.c_layout.proofs.Marks.{passed_marked}
use Rattle.papr_c.proofs.running.try_trial.Goals as goal

-- Whether a cached translation may no longer hold, by the receipt that ended a trial.
abbrev ends_so : Option Receipt → Bool
ends_so ending = option_map_or (λ (r : Receipt). is_stale r.answer) ending false

pub try_lent-tried-requires-clause-in_table : goal.try_lent-tried-requires-clause-in_table
try_lent-tried-requires-clause-in_table c =
    calls_inside c.args.order (states_of c.args.entries.now) _ c.requires.table
    (trial_in c.args.order c.args.trial.now c.requires.fits)

pub try_lent-tried-requires-clause-few : goal.try_lent-tried-requires-clause-few
try_lent-tried-requires-clause-few c = (trial_in c.args.order c.args.trial.now c.requires.fits).few

pub returns-in-Entered-clause-told : goal.returns-in-Entered-clause-told
returns-in-Entered-clause-told c =
    let t = c.args.trial.now in
    let x = trial_run (goes_of t.told) (states_of c.args.entries.now)
    (calls_from t.op t.first t.count) in
    let goes : goes_of t.told ≡ is_taken = ap (λ d. goes_of d)
    c.in-Entered.is in
    let stale : c.ends_stale-stale.result ≡ any_stale x.0 =
    c.ends_stale-stale.ensures
    ∙ ap ends_so
    (c.try_lent-tried.ensures.ending
    ∙ ap
    (λ g.
    ending_of g (trial_run g (states_of c.args.entries.now) (calls_from t.op t.first t.count)).0)
    goes)
    ∙ stale_entered (states_of c.args.entries.now) (calls_from t.op t.first t.count)
    ∙ ap
    (λ g.
    any_stale (trial_run g (states_of c.args.entries.now) (calls_from t.op t.first t.count)).0)
    (sym goes) in
    call_tried _ _ _ x c.entered_registers.result.rc c.entered_registers.result.words
    c.hand_over.result
    c.hand_over.new.words c.try_lent-tried.new.receipts (states_of c.try_lent-tried.new.entries)
    c.requires.table
    refl
    (c.entered_registers.ensures
    ∙ ap told_by_ending c.try_lent-tried.ensures.ending
    ∙ ap (λ d. told_by_ending (ending_of (goes_of d) x.0)) c.in-Entered.is
    ∙ told_is x.0
    ∙ ap (λ d. told_of d x.0) (sym c.in-Entered.is))
    (rw (c.try_lent-tried.ensures.count, stale) at c.hand_over.ensures.reply)
    c.hand_over.ensures.words
    c.try_lent-tried.ensures.receipts
    c.try_lent-tried.ensures.entries

pub returns-in-Answer-clause-told : goal.returns-in-Answer-clause-told
returns-in-Answer-clause-told c =
    let t = c.args.trial.now in
    let r = c.make-receipt.result in
    let few : t.count ≤ 1 = subst (λ d. t.count ≤ most_of d) c.in-Answer.is c.requires.fits.few in
    let one : t.count ≡ 1 = omega (arith, few, c.requires.fits.some) in
    call_tried _ (plan_of_trial t) _ (r ∷ [], states_after (states_of c.args.entries.now) r)
    c.answered_registers.result.rc c.answered_registers.result.words
    c.hand_over-in-Answer.result c.hand_over-in-Answer.new.words c.make-receipt.new.receipts
    (states_of c.make-receipt.new.entries)
    c.requires.table
    (alone t.op t.first (states_of c.args.entries.now) r c.make-receipt.ensures.receipt
    ∙ λ k. trial_run (goes_of (sym c.in-Answer.is k)) (states_of c.args.entries.now)
    (calls_from t.op t.first (sym one k)))
    (c.answered_registers.ensures ∙ ap (λ d. told_of d (r ∷ [])) (sym c.in-Answer.is))
    (rw (c.is_stale-stale.ensures, stale_alone r) at c.hand_over-in-Answer.ensures.reply)
    c.hand_over-in-Answer.ensures.words
    c.make-receipt.ensures.receipts
    c.make-receipt.ensures.entries

pub try_lent-tried-requires-in-Contents-clause-in_table :
    goal.try_lent-tried-requires-in-Contents-clause-in_table
try_lent-tried-requires-in-Contents-clause-in_table c =
    calls_inside c.args.order (states_of c.args.entries.now) _ c.requires.table
    (trial_in c.args.order c.args.trial.now c.requires.fits)

pub try_lent-tried-requires-in-Contents-clause-few :
    goal.try_lent-tried-requires-in-Contents-clause-few
try_lent-tried-requires-in-Contents-clause-few c =
    (trial_in c.args.order c.args.trial.now c.requires.fits).few

pub returns-in-Contents-clause-told : goal.returns-in-Contents-clause-told
returns-in-Contents-clause-told c =
    let t = c.args.trial.now in
    let entries = states_of c.args.entries.now in
    let x = read_all t.first t.count entries in
    let ws = words_of_entries entries t.first t.count in
    let read = reads entries t.first t.count in
    let op : t.op ≡ Read = subst (λ d. IsToldOf d t.op) c.in-Contents.is c.requires.fits.told in
    let same : trial_run (goes_of t.told) entries (calls_from t.op t.first t.count) ≡ x
    = λ k. trial_run (goes_of (c.in-Contents.is k)) entries
    (calls_from (op k) t.first t.count) in
    let stays : (states_of c.try_lent-tried-in-Contents.new.entries) ≡ entries =
    c.try_lent-tried-in-Contents.ensures.entries ∙ ap (λ z. z.1) same ∙ read.entries in
    let shown : c.put_doublewords-shown.result ≡ min (length c.args.words.now) (length ws) =
    c.put_doublewords-shown.ensures.count ∙ ap (min (length c.args.words.now))
    (sym (words-length entries t.first t.count)) in
    let many = rw c.try_lent-tried-in-Contents.ensures.count at c.filled_count.ensures in
    let filled : c.filled_count.result ≡ min (length c.args.receipts.now) (length x.0) = many ∙ ap
    (λ z. min (length c.args.receipts.now) (length z.0)) same in
    call_tried _ (plan_of_trial t) _ x Success ws c.answered.result
    c.put_doublewords-shown.new.slots
    c.try_lent-tried-in-Contents.new.receipts (states_of c.try_lent-tried-in-Contents.new.entries)
    c.requires.table
    (sym same)
    (ap (λ z. (Success, z)) (sym read.words) ∙ ap (λ d. told_of d x.0) (sym c.in-Contents.is))
    (c.answered.ensures
    ∙ λ k. record {
      rc = rc_code Success;
      words = shown k;
      receipts = filled k;
      stale = sym read.fresh k;
    })
    (c.put_doublewords-shown.ensures.put
    ∙ ap (λ e. placed c.args.words.now 0 (words_of_entries e t.first t.count)) stays
    ∙ placed_filled ws c.args.words.now)
    (c.try_lent-tried-in-Contents.ensures.receipts
    ∙ ap (λ z. placed c.args.receipts.now 0 (map shown_receipt z.0)) same)
    (c.try_lent-tried-in-Contents.ensures.entries ∙ ap (λ z. z.1) same)

pub returns-in-Entered-clause-marks : goal.returns-in-Entered-clause-marks
returns-in-Entered-clause-marks c =
    passed_marked c.args.entries.now c.try_lent-tried.new.entries c.try_lent-tried.ensures.passed

pub returns-in-Answer-clause-marks : goal.returns-in-Answer-clause-marks
returns-in-Answer-clause-marks c =
    passed_marked c.args.entries.now c.make-receipt.new.entries c.make-receipt.ensures.passed

pub returns-in-Contents-clause-marks : goal.returns-in-Contents-clause-marks
returns-in-Contents-clause-marks c =
    passed_marked c.args.entries.now c.try_lent-tried-in-Contents.new.entries
    c.try_lent-tried-in-Contents.ensures.passed
