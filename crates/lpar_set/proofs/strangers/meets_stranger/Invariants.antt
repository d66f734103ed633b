use Rattle.std.proofs.Common.{◌≡◌, ℕ, ◌<◌, get_or, slice_set, false, None}
use Rattle.lpar_set.specs.SetGrammar.{meets_any}
use Rattle.lpar_set.proofs.strangers.meets_stranger.Given as goal

-- No grant of the partitions before is met, but for the number's own.
abbrev pub invariant-loop-i : goal.invariant-loop-i
invariant-loop-i l =
    (k : ℕ)
    → k < l.i
    → meets_any l.grant (get_or (slice_set l.readings l.number None) k None) ≡ false
