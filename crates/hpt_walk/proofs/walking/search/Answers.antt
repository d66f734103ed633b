use Rattle.std.proofs.Common.{◌≡◌, ◌-◌, Some, length, ◌*◌, true, false, arith, ap, sym, subst, [], ◌∷◌, ◌++◌, List, ◌∙◌, append_assoc, append-nil}
use Rattle.std.proofs.lemmas.Grind.{common_steps}
use Rattle.std.specs.List.{slice_get}
use Rattle.entry_model.specs.declared.receipt.Receipt.{Receipt}
use Rattle.entry_model.specs.Receipt.{is_no_match, found_of}
use Rattle.entry_model.specs.Trial.{IsTrial, ending_of, receipts_added}
use Rattle.entry_model.proofs.TrialSteps.{calls_from, ending-on, ending-off, added-push, behind-push, last_pushed}
use Rattle.hpt_walk.proofs.GroupSteps.{trial_ends, trial_goes, trial_none}
use Rattle.hpt_walk.proofs.walking.search.Goals as goal

pub returns-then-not-goes_on_after-clause-trial : goal.returns-then-not-goes_on_after-clause-trial
returns-then-not-goes_on_after-clause-trial g c =
    let old : List Receipt = c.args.receipts.now in
    let r : Receipt = c.apply-receipt.result in
    let off : is_no_match r.answer ≡ false = let e = c.if-not-goes_on_after.ensures in cc in
    let push :
    receipts_added old c.push.new.self ≡ receipts_added old c.loop-slot.receipts ++ r ∷ [] =
    ap (receipts_added old) c.push.ensures ∙ added-push old c.loop-slot.receipts r
    c.loop-slot.invariant.behind in
    rw push
    (c.loop-slot.invariant.trial (r ∷ [])
    (trial_ends is_no_match c.args.op (c.args.group * 8) c.loop-slot.slot 8
    r (omega arith) c.apply-receipt.ensures.receipt off))

pub returns-then-not-goes_on_after-clause-found : goal.returns-then-not-goes_on_after-clause-found
returns-then-not-goes_on_after-clause-found g c =
    let old : List Receipt = c.args.receipts.now in
    let r : Receipt = c.apply-receipt.result in
    let off : is_no_match r.answer ≡ false = let e = c.if-not-goes_on_after.ensures in cc in
    let push :
    receipts_added old c.push.new.self ≡ receipts_added old c.loop-slot.receipts ++ r ∷ [] =
    ap (receipts_added old) c.push.ensures ∙ added-push old c.loop-slot.receipts r
    c.loop-slot.invariant.behind in
    let last : c.copied.result ≡ Some r = c.copied.ensures
    ∙ c.last.ensures.value
    ∙ ap (λ z. slice_get z (length z - 1)) (c.as_slice.ensures.value ∙ c.push.ensures)
    ∙ last_pushed c.loop-slot.receipts r in
    last
    ∙ sym
    (ap found_of push ∙ c.loop-slot.invariant.ending (r ∷ []) ∙ ending-off is_no_match r [] off)

pub loop-slot-preserved : goal.loop-slot-preserved
loop-slot-preserved g c =
    let old : List Receipt = c.args.receipts.now in
    let goes = is_no_match in
    let r : Receipt = c.apply-receipt.result in
    let on : is_no_match r.answer ≡ true = let e = c.if-not-goes_on_after.ensures in cc in
    let push :
    receipts_added old c.push.new.self ≡ receipts_added old c.loop-slot.receipts ++ r ∷ [] =
    ap (receipts_added old) c.push.ensures ∙ added-push old c.loop-slot.receipts r
    c.loop-slot.invariant.behind in
    let more : (rs : List Receipt) → receipts_added old c.push.new.self ++ rs ≡ receipts_added old
    c.loop-slot.receipts ++ (r ∷ rs) = λ rs. ap (λ z. z ++ rs) push ∙ append_assoc
    (receipts_added old c.loop-slot.receipts) (r ∷ []) rs in
    record {
      behind =
          rw c.push.ensures (behind-push old c.loop-slot.receipts r c.loop-slot.invariant.behind);
      count = grind (arith, common_steps);
      made =
          rw push
          (g.met.T.EntryStore.made_more _ _ _ (receipts_added old c.loop-slot.receipts) (r ∷ [])
          c.loop-slot.invariant.made c.apply-receipt.ensures.made);
      order =
          g.met.T.EntryStore.order_stays _ _ (r ∷ []) c.apply-receipt.ensures.made
          ∙ c.loop-slot.invariant.order;
      trial =
          λ rs h.
          rw more
          (c.loop-slot.invariant.trial (r ∷ rs)
          (trial_goes goes c.args.op (c.args.group * 8) c.loop-slot.slot 8 r rs
          (omega arith) c.apply-receipt.ensures.receipt on h));
      ending =
          λ rs.
          ap (ending_of goes) (more rs)
          ∙ c.loop-slot.invariant.ending (r ∷ rs)
          ∙ ending-on goes r rs on;
    }

pub returns-clause-trial : goal.returns-clause-trial
returns-clause-trial g c =
    let so_far : List Receipt = receipts_added c.args.receipts.now c.loop-slot.receipts in
    subst (IsTrial is_no_match (calls_from c.args.op (c.args.group * 8) 8))
    (append-nil so_far)
    (c.loop-slot.invariant.trial []
    (trial_none is_no_match c.args.op (c.args.group * 8) c.loop-slot.slot 8
    (omega arith)))

pub returns-clause-found : goal.returns-clause-found
returns-clause-found g c = sym (rw append-nil at (c.loop-slot.invariant.ending []))
