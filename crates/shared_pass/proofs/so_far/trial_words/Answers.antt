use Rattle.std.proofs.Common.{[], arith, ap, sym, ◌∙◌, append-nil}
use Rattle.entry_model.specs.Trial.{ending_of}
use Rattle.entry_model.proofs.BegunLaws.{begun_on, begun_short}
use Rattle.entry_model.proofs.CallRows.{row_length}
use Rattle.call_plan.specs.Plans.{plan_of_trial}
use Rattle.shared_pass.proofs.so_far.trial_words.Goals as goal

pub told_registers-words-requires-clause-few : goal.told_registers-words-requires-clause-few
told_registers-words-requires-clause-few c =
    let t = c.args.trial.now in
    omega (
      arith,
      begun_short _ _ _ c.requires.begun,
      row_length t.op t.first t.count,
      c.requires.fits.few,
    )

pub told_registers-words-requires-clause-ending : goal.told_registers-words-requires-clause-ending
told_registers-words-requires-clause-ending c =
    let goes = (plan_of_trial c.args.trial.now).goes_on in
    let rs = c.args.receipts.now in
    sym (ap (ending_of goes) (sym (append-nil rs)) ∙ begun_on goes _ rs [] c.requires.begun)
