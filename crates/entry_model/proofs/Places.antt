-- The place of a receipt, one number, compares as its three parts do from the left.
use Rattle.std.proofs.Common.{◌≡◌, ℕ, ◌+◌, ◌*◌, ◌≤◌, ◌==◌, Bool, true, false, cond, arith, ◌&&◌, ◌||◌}
use Rattle.std.specs.Prelude.{nat_lt, nat_le}
use Rattle.std.proofs.lemmas.Bool.Decides.{nat_tests}
use Rattle.entry_model.specs.declared.receipt.Receipt.{Receipt}
use Rattle.entry_model.specs.Receipt.{after_of}
use Rattle.entry_model.specs.History.{bits, precedes, place, pair_of, state_eq}
use Rattle.entry_model.specs.Laws.{compares_before}
use Rattle.entry_model.proofs.Sorted.{bits_low}

compared :
    (s t m n f g : ℕ)
    → m ≤ 2
    → n ≤ 2
    → f ≤ 1
    → g ≤ 1
    → nat_le ((s * 4 + m) * 2 + f) ((t * 4 + n) * 2 + g)
    ≡ (nat_lt s t || ((s == t) && (nat_lt m n || ((m == n) && nat_le f g))))
compared s t m n f g a b c d = grind (arith, nat_tests)

at_most_one : (same : Bool) → cond same 0 1 ≤ 1
at_most_one true = omega arith
at_most_one false = omega arith

pub from_the_left : (x y : Receipt) → precedes x y ≡ compares_before x y
unfolding place pair_of
from_the_left x y =
    compared x.before.stamp y.before.stamp (bits x.before) (bits y.before)
    (cond (state_eq (after_of x) x.before) 0 1) (cond (state_eq (after_of y) y.before) 0 1)
    (bits_low x.before.referenced x.before.changed) (bits_low y.before.referenced y.before.changed)
    (at_most_one (state_eq (after_of x) x.before))
    (at_most_one (state_eq (after_of y) y.before))
