use Rattle.std.proofs.Common.{ap, ◌∙◌, arith}
use Rattle.lock_core.specs.declared.control.Control.{Control}
use Rattle.lock_core.specs.declared.doing.Doing.{Doing}
use Rattle.lock_core.specs.Steps.{with_noted}
use Rattle.entry_lock.specs.declared.rule.View.{View}
use Rattle.entry_lock.specs.Layout.{control_of_word}
use Rattle.entry_lock.specs.LineSteps.{is_gone_from}
use Rattle.entry_lock.proofs.Bits.{control_is}
use Rattle.entry_lock.proofs.ViewChanges.{receipt_by}
use Rattle.entry_lock.proofs.LineFacts.{decided_receipt}
use Rattle.entry_lock.proofs.line_accesses.decide.Goals as goal

pub returns-then-decides-clause-receipt : goal.returns-then-decides-clause-receipt
returns-then-decides-clause-receipt c =
    let l = c.requires.looked in
    let t = c.look_line_again-found.ensures.told in
    let by = c.decides.ensures.decided c.if-decides.true t.0 t.1 in
    receipt_by (with_noted c.args.doing.now t.0) _ _ _ by.1
    (ap (λ (d : Doing). d.entry) l.begun_at) (ap (λ (d : Doing). d.op) l.begun_at)

pub returns-then-decides-clause-current : goal.returns-then-decides-clause-current
returns-then-decides-clause-current c =
    let l = c.requires.looked in
    let t = c.look_line_again-found.ensures.told in
    let by = c.decides.ensures.decided c.if-decides.true t.0 t.1 in
    decided_receipt c.args.known.now c.args.op c.args.doing.now t.0 _ l.begun_at l.valid l.stamp
    l.clear by.0 by.1

pub returns-clause-gone : goal.returns-clause-gone
returns-clause-gone c =
    let t = c.look_line_again-found.ensures.told in
    let missed = c.decides.ensures.missed c.if-decides.false in
    let past = t.3 (missed.1 t.0 t.1) in
    let is = past.0.0 in
    record {
      live = ap (λ (w : View). w.actor.live) is;
      receipts = ap (λ (w : View). w.actor.receipts) is;
      lines = ap (λ (w : View). w.actor.lines) is;
      fronts = ap (λ (w : View). w.fronts) is;
      gone = past.0.1;
      numbers = ap (λ (w : View). w.numbers) is;
      passes = ap (λ (w : View). w.passes) is;
      opening = ap (λ (w : View). w.opening) is;
      count = let more = ap (λ (w : View). w.count) is in omega arith;
      last =
          ap (λ (w : View). w.last) is
          ∙ ap (λ (d : Doing). d.entry) c.requires.looked.begun_at;
      left =
          ap (λ (k : Control). is_gone_from k c.args.known.now.stamp)
          (ap (λ (w : View). control_of_word w.found) is ∙ control_is _ t.0 t.1)
          ∙ past.1;
    }
