use Rattle.std.proofs.Common.{◌≡◌, ◌<◌, length, true, false, arith, refl, sym, ◌∙◌}
use Rattle.std.proofs.lemmas.Grind.{common_steps}
use Rattle.std.proofs.lemmas.List.{get_or_read}
use Rattle.entry_model.specs.Receipt.{is_worn, blank_receipt}
use Rattle.call_plan.specs.Bulk.{status_of, worn_status}
use Rattle.call_plan.proofs.BulkSteps.{same_worn}
use Rattle.call_plan.proofs.RemovalSteps.{tells_end, tells_refused, tells_missing, tells_worn, tells_more, tells_all}
use Rattle.call_plan.proofs.bulk.removal_registers.Goals as goal

pub loop-i-init : goal.loop-i-init
loop-i-init c = record {
  words = rw c.new-words.ensures refl;
  so_far = record { told = rw c.new-words.ensures refl };
}

pub returns-in-End : goal.returns-in-End
returns-in-End c =
    rw c.ended.ensures
    (tells_end _ c.loop-i.i c.args.pairs.now _ c.args.receipts.now (omega arith) (omega arith)
    (sym c.asked_by.ensures ∙ c.in-End.is) c.loop-i.invariant.so_far)

pub returns-in-Refused : goal.returns-in-Refused
returns-in-Refused c =
    rw (c.ended-in-Refused.ensures, c.push.ensures, c.response.ensures)
    (tells_refused _ c.loop-i.i c.args.pairs.now _ c.args.receipts.now (omega arith) (omega arith)
    (sym c.asked_by.ensures ∙ c.in-Refused.is) c.loop-i.invariant.so_far)

pub returns-then-i-receipts : goal.returns-then-i-receipts
returns-then-i-receipts c =
    rw c.ended-then-i-receipts.ensures
    (tells_missing _ c.loop-i.i c.args.pairs.now _ c.args.receipts.now c.in-Remove.entry
    c.in-Remove.test (omega arith) (omega arith) (sym c.asked_by.ensures ∙ c.in-Remove.is)
    (omega (arith, c.if-i-receipts.true)) c.loop-i.invariant.so_far)

pub returns-then-eq : goal.returns-then-eq
returns-then-eq c =
    let r = c.index-receipts-i.result in
    let inside : c.loop-i.i < length c.args.receipts.now = omega (arith, c.if-i-receipts.false) in
    let worn : is_worn r.answer ≡ true = sym (same_worn r.answer) ∙ sym c.eq.ensures ∙ c.if-eq.true
    in
    let status : c.status.result ≡ worn_status = rw worn at c.status.ensures.value in
    rw (c.ended-then-eq.ensures, c.push-in-Remove.ensures, c.response-in-Remove.ensures, status)
    (tells_worn _ c.loop-i.i c.args.pairs.now _ c.args.receipts.now c.in-Remove.entry
    c.in-Remove.test r (omega arith) (omega arith) (sym c.asked_by.ensures ∙ c.in-Remove.is)
    inside
    (get_or_read c.args.receipts.now c.loop-i.i r inside c.index-receipts-i.is blank_receipt)
    worn c.loop-i.invariant.so_far)

pub loop-i-preserved : goal.loop-i-preserved
loop-i-preserved c =
    let r = c.index-receipts-i.result in
    let inside : c.loop-i.i < length c.args.receipts.now = omega (arith, c.if-i-receipts.false) in
    let goes : is_worn r.answer ≡ false = sym (same_worn r.answer) ∙ sym c.eq.ensures ∙
    c.if-eq.false in
    let status : c.status.result ≡ status_of r.answer r.before = rw goes at c.status.ensures.value
    in
    record {
      words = grind (arith, common_steps);
      so_far =
          rw (
            c.push-in-Remove-2.ensures,
            c.push-in-Remove.ensures,
            c.response-in-Remove.ensures,
            status,
          )
          (tells_more _ c.loop-i.i c.args.pairs.now _ c.args.receipts.now c.in-Remove.entry
          c.in-Remove.test r (omega arith) (omega arith)
          (sym c.asked_by.ensures ∙ c.in-Remove.is) inside
          (get_or_read c.args.receipts.now c.loop-i.i r inside c.index-receipts-i.is
          blank_receipt) goes c.loop-i.invariant.so_far);
    }

pub returns : goal.returns
returns c =
    rw c.ended-2.ensures
    (tells_all _ c.loop-i.i c.args.pairs.now _ c.args.receipts.now (omega arith) (omega arith)
    c.loop-i.invariant.so_far)
