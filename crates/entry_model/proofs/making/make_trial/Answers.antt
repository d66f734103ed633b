use Rattle.std.proofs.Common.{◌≡◌, ◌-◌, Some, ◌<◌, ◌≤◌, length, false, true, List, [], ◌∷◌, arith, ap, sym, ◌∙◌, append-nil}
use Rattle.std.proofs.lemmas.Grind.{common_steps}
use Rattle.std.specs.List.{slice_get}
use Rattle.hpte_fields.specs.TableSize.{entry_count}
use Rattle.entry_model.specs.declared.receipt.Receipt.{Receipt}
use Rattle.entry_model.specs.Receipt.{IsNormal}
use Rattle.entry_model.specs.Trial.{Call, ending_of}
use Rattle.entry_model.proofs.TrialSteps.{ending-off, last_pushed}
use Rattle.entry_model.proofs.BegunLaws.{at_has, at_end, begun_next, begun_ends, begun_whole, begun_short, begun_on}
use Rattle.entry_model.proofs.making.make_trial.Goals as goal

pub call_at-requires : goal.call_at-requires
call_at-requires g c =
    let short = begun_short _ _ _ c.loop-made.invariant.begun in
    omega (arith, short, c.loop-made.invariant.count)

-- ---- behind the last call
pub returns-in_default-clause-trial : goal.returns-in_default-clause-trial
returns-in_default-clause-trial g c =
    begun_whole _ _ _ c.loop-made.invariant.begun
    (rw c.loop-made.invariant.count (sym c.call_at.ensures ∙ c.in_default.is))

pub returns-in_default-clause-ending : goal.returns-in_default-clause-ending
returns-in_default-clause-ending g c =
    let goes = g.C.CallList.goes_on c.args.calls.now in
    sym
    (ap (ending_of goes) (sym (append-nil c.loop-made.receipts))
    ∙ begun_on goes _ c.loop-made.receipts [] c.loop-made.invariant.begun)

pub returns-clause-trial : goal.returns-clause-trial
returns-clause-trial g c =
    let past : length (g.C.CallList.calls c.args.calls.now) ≤ length c.loop-made.receipts = omega
    (arith, c.requires.few, c.loop-made.invariant.count) in
    begun_whole _ _ _ c.loop-made.invariant.begun (at_end _ _ past)

pub returns-clause-ending : goal.returns-clause-ending
returns-clause-ending g c =
    let goes = g.C.CallList.goes_on c.args.calls.now in
    sym
    (ap (ending_of goes) (sym (append-nil c.loop-made.receipts))
    ∙ begun_on goes _ c.loop-made.receipts [] c.loop-made.invariant.begun)

-- ---- one more call
pub apply-receipt-requires-clause-in_table : goal.apply-receipt-requires-clause-in_table
apply-receipt-requires-clause-in_table g c =
    rw c.loop-made.invariant.order
    (at_has (λ (d : Call). d.entry < entry_count (g.S.EntryStore.table_order c.args.store.now)) _
    c.loop-made.made c.in-Some.entry c.in-Some.op c.requires.in_table
    (sym c.call_at.ensures ∙ c.in-Some.is))

pub apply-receipt-requires-clause-normal : goal.apply-receipt-requires-clause-normal
apply-receipt-requires-clause-normal g c =
    at_has (λ (d : Call). IsNormal d.op) _ c.loop-made.made c.in-Some.entry c.in-Some.op
    c.requires.normal (sym c.call_at.ensures ∙ c.in-Some.is)

pub loop-made-preserved : goal.loop-made-preserved
loop-made-preserved g c =
    let goes = g.C.CallList.goes_on c.args.calls.now in
    let r : Receipt = c.apply-receipt.result in
    let rs : List Receipt = c.loop-made.receipts in
    let on : goes r.answer ≡ true = let e = c.if-not-goes_on_after.ensures in
    let f = c.goes_on_after.ensures in
    cc in
    record {
      count = grind (arith, common_steps);
      made =
          rw c.push.ensures
          (g.met.S.EntryStore.made_more _ _ _ rs (r ∷ [])
          c.loop-made.invariant.made c.apply-receipt.ensures.made);
      order =
          g.met.S.EntryStore.order_stays _ _ (r ∷ []) c.apply-receipt.ensures.made
          ∙ c.loop-made.invariant.order;
      begun = rw c.push.ensures
          (begun_next goes _ rs c.in-Some.entry c.in-Some.op r c.loop-made.invariant.begun
          (rw c.loop-made.invariant.count (sym c.call_at.ensures ∙ c.in-Some.is))
          c.apply-receipt.ensures.receipt on);
    }

-- ---- an answer after which it doesn't go on
pub returns-then-not-goes_on_after-clause-trial : goal.returns-then-not-goes_on_after-clause-trial
returns-then-not-goes_on_after-clause-trial g c =
    let r : Receipt = c.apply-receipt.result in
    let off : g.C.CallList.goes_on c.args.calls.now r.answer ≡ false = let e =
    c.if-not-goes_on_after.ensures in
    let f = c.goes_on_after.ensures in
    cc in
    rw c.push.ensures
    (begun_ends _ _ c.loop-made.receipts c.in-Some.entry c.in-Some.op r c.loop-made.invariant.begun
    (rw c.loop-made.invariant.count (sym c.call_at.ensures ∙ c.in-Some.is))
    c.apply-receipt.ensures.receipt off)

pub returns-then-not-goes_on_after-clause-ending : goal.returns-then-not-goes_on_after-clause-ending
returns-then-not-goes_on_after-clause-ending g c =
    let goes = g.C.CallList.goes_on c.args.calls.now in
    let r : Receipt = c.apply-receipt.result in
    let off : goes r.answer ≡ false = let e = c.if-not-goes_on_after.ensures in
    let f = c.goes_on_after.ensures in
    cc in
    let last : c.copied.result ≡ Some r = c.copied.ensures
    ∙ c.last.ensures.value
    ∙ ap (λ z. slice_get z (length z - 1)) (c.as_slice.ensures.value ∙ c.push.ensures)
    ∙ last_pushed c.loop-made.receipts r in
    last
    ∙ sym
    (ap (ending_of goes) c.push.ensures
    ∙ begun_on goes _ c.loop-made.receipts (r ∷ []) c.loop-made.invariant.begun
    ∙ ending-off goes r [] off)
