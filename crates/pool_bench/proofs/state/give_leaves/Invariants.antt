use Rattle.std.proofs.Common.{ℕ, ◌≤◌, ◌<◌, length, get_or, Contains}
use Rattle.hpt_pool.specs.Pool.{block_at}
use Rattle.pool_bench.proofs.state.give_leaves.Given as goal

abbrev pub invariant-loop-place : goal.invariant-loop-place
invariant-loop-place l =
    (k : ℕ)
    → l.place-index ≤ k
    → k < length l.places
    → Contains l.pool.taken (block_at (get_or l.places k 0) 18)
