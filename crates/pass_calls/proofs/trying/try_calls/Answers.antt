use Rattle.std.proofs.Common.{◌≡◌, ◌<◌, ◌≤◌, length, false, true, List, [], ◌∷◌, ◌++◌, arith, rules, ap, sym, subst, ◌∙◌, append-nil}
use Rattle.std.proofs.lemmas.Grind.{common_steps}
use Rattle.hpte_fields.specs.TableSize.{entry_count}
use Rattle.entry_model.specs.declared.receipt.Receipt.{Receipt}
use Rattle.entry_model.specs.Receipt.{IsNormal}
use Rattle.entry_model.specs.Trial.{Call, ending_of, receipts_added}
use Rattle.entry_model.proofs.TrialSteps.{ending-off, added-push, behind-push}
use Rattle.entry_model.proofs.BegunLaws.{at_has, at_end, begun_next, begun_ends, begun_whole, begun_short, begun_on}
use Rattle.pass_calls.proofs.trying.try_calls.Goals as goal

pub call_at-requires : goal.call_at-requires
call_at-requires g c =
    let short = begun_short _ _ _ c.loop-i.invariant.begun in
    omega (arith, short, c.loop-i.invariant.count)

-- ---- after the last call
pub returns-in_default-clause-trial : goal.returns-in_default-clause-trial
returns-in_default-clause-trial g c =
    begun_whole _ _ _ c.loop-i.invariant.begun
    (rw c.loop-i.invariant.count (sym c.call_at.ensures ∙ c.in_default.is))

pub returns-in_default-clause-ending : goal.returns-in_default-clause-ending
returns-in_default-clause-ending g c =
    let goes = g.C.CallList.goes_on c.args.calls.now in
    sym
    (ap (ending_of goes) (sym (append-nil c.loop-i.receipts))
    ∙ begun_on goes _ c.loop-i.receipts [] c.loop-i.invariant.begun)

pub returns-clause-trial : goal.returns-clause-trial
returns-clause-trial g c =
    let past : length (g.C.CallList.calls c.args.calls.now) ≤ length c.loop-i.receipts = omega
    (arith, c.requires.fits.few, c.loop-i.invariant.count) in
    begun_whole _ _ _ c.loop-i.invariant.begun (at_end _ _ past)

pub returns-clause-ending : goal.returns-clause-ending
returns-clause-ending g c =
    let goes = g.C.CallList.goes_on c.args.calls.now in
    sym
    (ap (ending_of goes) (sym (append-nil c.loop-i.receipts))
    ∙ begun_on goes _ c.loop-i.receipts [] c.loop-i.invariant.begun)

-- ---- one more call
pub try_apply-requires-clause-in_table : goal.try_apply-requires-clause-in_table
try_apply-requires-clause-in_table g c =
    rw c.loop-i.invariant.order
    (at_has (λ (d : Call). d.entry < entry_count (g.S.TriedStore.table_order c.args.store.now)) _
    c.loop-i.i c.in-Some.entry c.in-Some.op c.requires.fits.in_table
    (sym c.call_at.ensures ∙ c.in-Some.is))

pub try_apply-requires-clause-normal : goal.try_apply-requires-clause-normal
try_apply-requires-clause-normal g c =
    at_has (λ (d : Call). IsNormal d.op) _ c.loop-i.i c.in-Some.entry c.in-Some.op
    c.requires.fits.normal (sym c.call_at.ensures ∙ c.in-Some.is)

pub returns-in_err-made-clause-made : goal.returns-in_err-made-clause-made
returns-in_err-made-clause-made g c =
    let so_far : List Receipt = receipts_added c.args.receipts.now c.loop-i.receipts in
    subst (g.S.TriedStore.made c.args.store.now c.try_apply.new.self) (append-nil so_far)
    (g.met.S.TriedStore.made_more _ _ _ so_far [] c.loop-i.invariant.made
    c.in_err-made.ensures.nothing)

pub returns-in_err-made-clause-told : goal.returns-in_err-made-clause-told
returns-in_err-made-clause-told g c =
    let busy = c.in_err-made.field-0.0 in
    let told = subst (λ entry. g.S.TriedStore.told c.loop-i.store c.try_apply.new.self entry busy)
    (sym c.in_err-made.ensures.busy.of) c.in_err-made.ensures.told in
    let since = g.met.S.TriedStore.told_since _ _ _ _ _ _ c.loop-i.invariant.made told in
    search rules

pub loop-i-preserved : goal.loop-i-preserved
loop-i-preserved g c =
    let goes = g.C.CallList.goes_on c.args.calls.now in
    let old : List Receipt = c.args.receipts.now in
    let r : Receipt = c.in_ok-made.made in
    let rs : List Receipt = c.loop-i.receipts in
    let on : goes r.answer ≡ true = let e = c.if-not-goes_on_after.ensures in
    let f = c.goes_on_after.ensures in
    cc in
    let push : receipts_added old c.push.new.self ≡ receipts_added old rs ++ r ∷ [] = ap
    (receipts_added old) c.push.ensures ∙ added-push old rs r c.loop-i.invariant.behind in
    record {
      behind = rw c.push.ensures (behind-push old rs r c.loop-i.invariant.behind);
      count = grind (arith, common_steps);
      made =
          rw push
          (g.met.S.TriedStore.made_more _ _ _ (receipts_added old rs) (r ∷ [])
          c.loop-i.invariant.made c.in_ok-made.ensures.made);
      order =
          g.met.S.TriedStore.order_stays _ _ (r ∷ []) c.in_ok-made.ensures.made
          ∙ c.loop-i.invariant.order;
      begun = rw c.push.ensures
          (begun_next goes _ rs c.in-Some.entry c.in-Some.op r c.loop-i.invariant.begun
          (rw c.loop-i.invariant.count (sym c.call_at.ensures ∙ c.in-Some.is))
          c.in_ok-made.ensures.receipt on);
    }

-- ---- an answer after which it doesn't go on
pub returns-then-not-goes_on_after-clause-trial : goal.returns-then-not-goes_on_after-clause-trial
returns-then-not-goes_on_after-clause-trial g c =
    let r : Receipt = c.in_ok-made.made in
    let off : g.C.CallList.goes_on c.args.calls.now r.answer ≡ false = let e =
    c.if-not-goes_on_after.ensures in
    let f = c.goes_on_after.ensures in
    cc in
    rw c.push.ensures
    (begun_ends _ _ c.loop-i.receipts c.in-Some.entry c.in-Some.op r c.loop-i.invariant.begun
    (rw c.loop-i.invariant.count (sym c.call_at.ensures ∙ c.in-Some.is))
    c.in_ok-made.ensures.receipt off)

pub returns-then-not-goes_on_after-clause-ending : goal.returns-then-not-goes_on_after-clause-ending
returns-then-not-goes_on_after-clause-ending g c =
    let goes = g.C.CallList.goes_on c.args.calls.now in
    let r : Receipt = c.in_ok-made.made in
    let off : goes r.answer ≡ false = let e = c.if-not-goes_on_after.ensures in
    let f = c.goes_on_after.ensures in
    cc in
    sym
    (ap (ending_of goes) c.push.ensures
    ∙ begun_on goes _ c.loop-i.receipts (r ∷ []) c.loop-i.invariant.begun
    ∙ ending-off goes r [] off)
