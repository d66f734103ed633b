use Rattle.std.proofs.Common.{All, Contains}
use Rattle.hpt_pool.specs.Pool.{block_at}
use Rattle.store_tests.proofs.pool.beside_plain.answers_are_those_of_the_plain_pool.Given as goal

abbrev pub invariant-loop : goal.invariant-loop
invariant-loop g l =
    All (λ block. Contains l.pool.taken (block_at block.place block.order)) l.held.items
