use Rattle.std.proofs.Common.{◌≢◌, ℕ, All, AllPairs, Contains}
use Rattle.hpt_pool.specs.Pool.{block_at}
use Rattle.pool_bench.proofs.state.take_pairs.Given as goal

abbrev pub invariant-loop : goal.invariant-loop
invariant-loop l = record {
  held : All (λ place. Contains l.pool.taken (block_at place 18)) l.seconds.items;
  apart : AllPairs (λ (one other : ℕ). one ≢ other) l.seconds.items;
}
