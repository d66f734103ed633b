use Rattle.std.proofs.Common.{None, ap, sym, arith}
use Rattle.papr_c.specs.Segments.{slot_told}
use Rattle.papr_c.proofs.SlotSearch.{first_found, none_found}
use Rattle.papr_c.proofs.segments.lowest.Goals as goal

pub returns-then-has : goal.returns-then-has
returns-then-has c =
    sym
    (first_found c.args.slots.now c.args.ea c.loop-i.i (slot_told None) c.loop-i-test.true
    c.loop-i.invariant (grind (arith, c.has.ensures, c.if-has.true)))

pub returns : goal.returns
returns c =
    sym
    (ap slot_told
    (none_found c.args.slots.now c.args.ea (slot_told None)
    (λ k below. c.loop-i.invariant k (omega (arith, below, c.loop-i-test.false)))))
