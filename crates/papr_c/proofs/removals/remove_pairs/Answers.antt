use Rattle.std.specs.Prelude.{◌||◌}
use Rattle.std.proofs.Common.{◌≡◌, ◌+◌, ◌*◌, [], ◌∷◌, ◌++◌, set, get_or, true, false, refl, rules, ap, sym, ◌∙◌, arith}
use Rattle.papr_codes.specs.declared.codes.Rc.TheVariants.{Success, Parameter, Hardware}
use Rattle.entry_model.specs.Receipt.{IsReceiptOf, is_worn}
use Rattle.entry_model.specs.declared.operation.Op.TheVariants.{Remove}
use Rattle.call_plan.specs.Bulk.{h_bulk_remove_plan, response, ill_formed, worn_status, status_of}
use Rattle.call_plan.proofs.BulkSteps.{ends_at_end, ends_at_refused, ends_at_worn, ends_behind_all, same_worn}
use Rattle.c_layout.specs.Entries.{states_of}
use Rattle.c_layout.specs.Stale.{is_stale}
use Rattle.c_layout.proofs.Marks.{passed_none, passed_both, passed_marked}
use Rattle.papr_c.specs.Calls.{memory}
use Rattle.papr_c.proofs.SoFar.{put_next}
use Rattle.papr_c.proofs.Removing.{starts, put_more, run_one, removes_more, removal_ends, stale_more, asked_inside}
use Rattle.papr_c.proofs.removals.remove_pairs.Goals as goal
use Rattle.papr_c.proofs.removals.remove_pairs.Goals.{then-stale, else-stale}
use Rattle.std.proofs.lemmas.List.{length_push}

pub loop-i-init : goal.loop-i-init
loop-i-init c = record {
  so_far = (
    [],
    (
      [],
      starts c.args.order c.args.pairs.now (states_of c.args.entries.now) c.args.words.now
          c.args.receipts.now,
    ),
  );
  passed = passed_none c.args.entries.now;
}

pub returns-in-End-clause-told : goal.returns-in-End-clause-told
returns-in-End-clause-told c =
    let told = c.loop-i.invariant.so_far.0 in
    let rs = c.loop-i.invariant.so_far.1.0 in
    let h = c.loop-i.invariant.so_far.1.1 in
    let i = c.loop-i.i in
    let m = memory (states_of c.args.entries.now) c.args.words.now c.args.receipts.now in
    removal_ends _ (h_bulk_remove_plan c.args.order c.args.pairs.now) m Success c.args.pairs.now
    told rs (2 * i) i c.loop-i.stale c.loop-i.words c.ended.new.words c.ended.result
    c.loop-i.receipts (states_of c.loop-i.entries)
    c.requires.table
    (omega arith)
    (omega (arith, c.loop-i-test.true))
    (ends_at_end c.args.order i c.args.pairs.now told rs (omega arith)
    (omega (arith, c.loop-i-test.true)) c.in-End.ensures h.so_far)
    h.run
    h.in_words
    h.long
    c.ended.ensures.words
    h.put
    h.tried
    h.told_stale
    c.ended.ensures.reply

pub returns-in-End-clause-marks : goal.returns-in-End-clause-marks
returns-in-End-clause-marks c =
    passed_marked c.args.entries.now c.loop-i.entries c.loop-i.invariant.passed

pub returns-in-Refused-clause-told : goal.returns-in-Refused-clause-told
returns-in-Refused-clause-told c =
    let told = c.loop-i.invariant.so_far.0 in
    let rs = c.loop-i.invariant.so_far.1.0 in
    let h = c.loop-i.invariant.so_far.1.1 in
    let i = c.loop-i.i in
    let m = memory (states_of c.args.entries.now) c.args.words.now c.args.receipts.now in
    let answer = response ill_formed (get_or c.args.pairs.now (2 * i) 0) in
    removal_ends _ (h_bulk_remove_plan c.args.order c.args.pairs.now) m Parameter c.args.pairs.now
    (told ++ answer ∷ []) rs (2 * i + 1) i c.loop-i.stale c.put_word.new.slots
    c.ended-in-Refused.new.words c.ended-in-Refused.result c.loop-i.receipts
    (states_of c.loop-i.entries)
    c.requires.table
    (omega arith)
    (omega (arith, c.loop-i-test.true))
    (ends_at_refused c.args.order i c.args.pairs.now told rs (omega arith)
    (omega (arith, c.loop-i-test.true)) (sym c.asked_by.ensures ∙ c.in-Refused.is) h.so_far)
    h.run
    (c.put_word.ensures
    ∙ ap (set c.loop-i.words (2 * i)) c.ill_formed.ensures
    ∙ put_more c.args.words.now c.loop-i.words told (2 * i) answer h.in_words h.long)
    (omega (arith, length_push told answer, h.long))
    c.ended-in-Refused.ensures.words
    h.put
    h.tried
    h.told_stale
    c.ended-in-Refused.ensures.reply

pub returns-in-Refused-clause-marks : goal.returns-in-Refused-clause-marks
returns-in-Refused-clause-marks c =
    passed_marked c.args.entries.now c.loop-i.entries c.loop-i.invariant.passed

pub make-receipt-requires : goal.make-receipt-requires
make-receipt-requires c =
    asked_inside c.args.order (states_of c.args.entries.now) (states_of c.loop-i.entries)
    c.loop-i.invariant.so_far.1.0 _ _ _ c.requires.table c.loop-i.invariant.so_far.1.1.run
    (sym c.asked_by.ensures ∙ c.in-Remove.is)

pub returns-then-eq-clause-told : goal.returns-then-eq-clause-told
returns-then-eq-clause-told c =
    let told = c.loop-i.invariant.so_far.0 in
    let rs = c.loop-i.invariant.so_far.1.0 in
    let h = c.loop-i.invariant.so_far.1.1 in
    let i = c.loop-i.i in
    let inside = asked_inside c.args.order (states_of c.args.entries.now)
    (states_of c.loop-i.entries) rs _ _ _ c.requires.table h.run
    (sym c.asked_by.ensures ∙ c.in-Remove.is) in
    let r = c.make-receipt.result in
    let m = memory (states_of c.args.entries.now) c.args.words.now c.args.receipts.now in
    let answer = response worn_status (get_or c.args.pairs.now (2 * i) 0) in
    let worn : is_worn r.answer ≡ true = sym (same_worn r.answer) ∙ sym c.eq.ensures ∙ c.if-eq.true
    in
    let of : IsReceiptOf c.in-Remove.entry (Remove c.in-Remove.test) r = record {
      entry = rw c.make-receipt.ensures.receipt refl;
      op = rw c.make-receipt.ensures.receipt refl;
    } in
    let said : c.answered.result ≡ answer = rw worn at c.answered.ensures in
    let stale : c.if-stale.stale ≡ (c.loop-i.stale || is_stale r.answer) = elim c.if-stale.branch
    [ then-stale w ↦ search rules | else-stale w ↦ search rules ] in
    removal_ends _ (h_bulk_remove_plan c.args.order c.args.pairs.now) m Hardware c.args.pairs.now
    (told ++ answer ∷ []) (rs ++ r ∷ []) (2 * i + 1) (i + 1) c.if-stale.stale
    c.put_word-in-Remove.new.slots c.ended-then-eq.new.words c.ended-then-eq.result
    c.make-receipt.new.receipts (states_of c.make-receipt.new.entries)
    c.requires.table
    (omega arith)
    (omega (arith, c.loop-i-test.true))
    (ends_at_worn c.args.order i c.args.pairs.now told rs c.in-Remove.entry c.in-Remove.test r
    (omega arith) (omega (arith, c.loop-i-test.true)) c.in-Remove.ensures of worn h.so_far)
    (run_one (states_of c.args.entries.now) (states_of c.loop-i.entries)
    (states_of c.make-receipt.new.entries) rs c.in-Remove.entry c.in-Remove.test r h.run
    c.make-receipt.ensures.receipt inside c.make-receipt.ensures.entries)
    (c.put_word-in-Remove.ensures
    ∙ ap (set c.loop-i.words (2 * i)) said
    ∙ put_more c.args.words.now c.loop-i.words told (2 * i) answer h.in_words h.long)
    (omega (arith, length_push told answer, h.long))
    c.ended-then-eq.ensures.words
    (c.make-receipt.ensures.receipts
    ∙ put_next c.args.receipts.now c.loop-i.receipts i rs r h.put h.tried)
    (omega (arith, length_push rs r, h.tried))
    (stale ∙ ap (λ b. b || is_stale r.answer) h.told_stale ∙ stale_more rs r)
    c.ended-then-eq.ensures.reply

pub returns-then-eq-clause-marks : goal.returns-then-eq-clause-marks
returns-then-eq-clause-marks c =
    passed_marked c.args.entries.now c.make-receipt.new.entries
    (passed_both c.args.entries.now c.loop-i.entries c.make-receipt.new.entries
    c.loop-i.invariant.passed c.make-receipt.ensures.passed)

pub loop-i-preserved : goal.loop-i-preserved
loop-i-preserved c =
    let told = c.loop-i.invariant.so_far.0 in
    let rs = c.loop-i.invariant.so_far.1.0 in
    let h = c.loop-i.invariant.so_far.1.1 in
    let i = c.loop-i.i in
    let inside = asked_inside c.args.order (states_of c.args.entries.now)
    (states_of c.loop-i.entries) rs _ _ _ c.requires.table h.run
    (sym c.asked_by.ensures ∙ c.in-Remove.is) in
    let r = c.make-receipt.result in
    let answer = response (status_of r.answer r.before) (get_or c.args.pairs.now (2 * i) 0) in
    let word = get_or c.args.pairs.now (2 * i + 1) 0 in
    let goes : is_worn r.answer ≡ false = sym (same_worn r.answer) ∙ sym c.eq.ensures ∙
    c.if-eq.false in
    let said : c.answered.result ≡ answer = rw goes at c.answered.ensures in
    let stale : c.if-stale.stale ≡ (c.loop-i.stale || is_stale r.answer) = elim c.if-stale.branch
    [ then-stale w ↦ search rules | else-stale w ↦ search rules ] in
    record {
      so_far = (
        (told ++ answer ∷ []) ++ word ∷ [],
        (
          rs ++ r ∷ [],
          rw stale
              (removes_more c.args.order i c.args.pairs.now (states_of c.args.entries.now)
              (states_of c.loop-i.entries) (states_of c.make-receipt.new.entries)
              c.args.words.now c.loop-i.words c.put_word-in-Remove.new.slots
              c.put_word-in-Remove-2.new.slots c.args.receipts.now c.loop-i.receipts
              c.make-receipt.new.receipts c.loop-i.stale told rs c.in-Remove.entry
              c.in-Remove.test r answer word (omega arith) (omega (arith, c.loop-i-test.true))
              c.in-Remove.ensures c.make-receipt.ensures.receipt inside goes
              refl refl c.make-receipt.ensures.entries
              (c.put_word-in-Remove.ensures ∙ ap (set c.loop-i.words (2 * i)) said)
              c.put_word-in-Remove-2.ensures c.make-receipt.ensures.receipts h),
        ),
      );
      passed =
          passed_both c.args.entries.now c.loop-i.entries c.make-receipt.new.entries
          c.loop-i.invariant.passed c.make-receipt.ensures.passed;
    }

pub returns-clause-told : goal.returns-clause-told
returns-clause-told c =
    let told = c.loop-i.invariant.so_far.0 in
    let rs = c.loop-i.invariant.so_far.1.0 in
    let h = c.loop-i.invariant.so_far.1.1 in
    let i = c.loop-i.i in
    let m = memory (states_of c.args.entries.now) c.args.words.now c.args.receipts.now in
    let four : i ≡ 4 = omega (arith, c.loop-i-test.false, c.loop-i.auto) in
    removal_ends _ (h_bulk_remove_plan c.args.order c.args.pairs.now) m Success c.args.pairs.now
    told rs 8 4 c.loop-i.stale c.loop-i.words c.ended-2.new.words c.ended-2.result
    c.loop-i.receipts (states_of c.loop-i.entries)
    c.requires.table
    (omega arith)
    (omega arith)
    (ends_behind_all c.args.order i c.args.pairs.now told rs (omega arith)
    (omega (arith, four)) h.so_far)
    h.run
    h.in_words
    (omega (arith, h.long, four))
    c.ended-2.ensures.words
    h.put
    (omega (arith, h.tried, four))
    h.told_stale
    c.ended-2.ensures.reply

pub returns-clause-marks : goal.returns-clause-marks
returns-clause-marks c =
    passed_marked c.args.entries.now c.loop-i.entries c.loop-i.invariant.passed
