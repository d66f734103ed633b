use Rattle.std.proofs.Common.{◌≢◌, ◌<◌, ℕ, Some, map}
use Rattle.hpt_resize.specs.Rehash.{target_at}
use Rattle.hpt_resize.proofs.carry.first.Given as goal

abbrev pub invariant-loop-index : goal.invariant-loop-index
invariant-loop-index g l =
    (k : ℕ)
    → k < l.index
    → target_at l.order_from l.order_to (map g.H.StateHolder.held l.states) k ≢ Some l.target
