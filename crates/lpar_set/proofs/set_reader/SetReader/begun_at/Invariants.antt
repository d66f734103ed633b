use Rattle.std.proofs.Common.{◌≡◌, ℕ, ◌<◌, get_or, false, nat_eq}
use Rattle.lpar_set.proofs.set_reader.SetReader.begun_at.Given as goal

-- None of those before is the number.
abbrev pub invariant-loop-i : goal.invariant-loop-i
invariant-loop-i l = (k : ℕ) → k < l.i → nat_eq (get_or l.begun-items k 0) l.number ≡ false
