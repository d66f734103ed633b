use Rattle.run_model.specs.Histories.{gone_events}
use Rattle.history_check.specs.FrontKeeping.{front_of}
use Rattle.history_check.proofs.FrontSteps.{all_made, leads_off}
use Rattle.history_check.proofs.fronts.keep_fronts.Goals as goal

pub returns-clause-no : goal.returns-clause-no
returns-clause-no c =
    λ off.
    leads_off (front_of c.args.fronts.now c.args.opening.now)
    (front_of c.pass_gone.new.fronts c.args.opening.now) (gone_events c.args.gone.now)
    (all_made c.args.receipts.now) c.in_ok-pass_gone.ensures (c.in_ok-kept.ensures.no off)
