use Rattle.std.proofs.Common.{◌≡◌, ◌<◌, false, ℕ, get_or, None}
use Rattle.papr_c.specs.Segments.{covering, slot_told}
use Rattle.papr_c.proofs.segments.lowest.Given as goal

abbrev pub invariant-loop-i : goal.invariant-loop-i
invariant-loop-i l =
    (k : ℕ) → k < l.i → covering l.ea (get_or l.slots k (slot_told None)) ≡ false
