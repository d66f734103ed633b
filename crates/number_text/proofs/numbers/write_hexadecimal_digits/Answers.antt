use Rattle.std.proofs.Common.{◌≡◌, ◌+◌, ◌-◌, ◌∙◌, drop, sym, arith}
use Rattle.std.proofs.lemmas.List.{drop-set}
use Rattle.number_text.proofs.NumberSteps.{digits_onto_start, digits_onto_last, digits_onto_step, fewer}
use Rattle.number_text.proofs.numbers.write_hexadecimal_digits.Goals as goal

pub loop-start-init : goal.loop-start-init
loop-start-init c =
    let a = c.args in
    let places : a.end - (a.end - 16) ≡ 16 = omega arith in
    record {
      places = omega arith;
      low = omega arith;
      high = omega arith;
      small = rw places (omega (arith, c.ranges.number.fits));
      begun = λ h. omega arith;
      told = rw places (digits_onto_start a.number (drop a.end a.text.now));
    }

pub loop-start-preserved : goal.loop-start-preserved
loop-start-preserved c =
    let l = c.loop-start in
    let one : l.start - (c.args.end - 16) + 48 ≡ l.start - 1 - (c.args.end - 16) + 48 + 1 = omega
    arith in
    let two : l.start - (c.args.end - 16) ≡ l.start - 1 - (c.args.end - 16) + 1 = omega arith in
    let three : l.start - 1 + 1 ≡ l.start = omega arith in
    record {
      places = l.invariant.places;
      low = omega arith;
      high = omega arith;
      small =
          fewer 16 l.rest (l.start - 1 - (c.args.end - 16)) (omega arith)
          (rw two at l.invariant.small);
      begun = λ h. omega (arith, c.if-rest-eq0.false);
      told =
          rw (drop-set l.text (l.start - 1) _ (omega arith), three, c.digit_of.ensures)
          (sym
          (digits_onto_step l.rest (drop l.start l.text)
          (l.start - 1 - (c.args.end - 16) + 48) c.if-rest-eq0.false)
          ∙ (rw one at l.invariant.told));
    }

pub returns-then-rest-eq0-clause-written : goal.returns-then-rest-eq0-clause-written
returns-then-rest-eq0-clause-written c =
    let l = c.loop-start in
    let one : l.start - (c.args.end - 16) + 48 ≡ l.start - 1 - (c.args.end - 16) + 48 + 1 = omega
    arith in
    let three : l.start - 1 + 1 ≡ l.start = omega arith in
    rw (drop-set l.text (l.start - 1) _ (omega arith), three, c.digit_of.ensures)
    (sym
    (digits_onto_last l.rest (drop l.start l.text) (l.start - 1 - (c.args.end - 16) + 48)
    c.if-rest-eq0.true)
    ∙ (rw one at l.invariant.told))
