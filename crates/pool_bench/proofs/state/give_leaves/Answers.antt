use Rattle.std.proofs.Common.{get_or, sym, arith}
use Rattle.hpt_pool.specs.Pool.{block_at}
use Rattle.hpt_pool.proofs.Kept.{give_keeps}
use Rattle.pool_bench.proofs.state.give_leaves.Goals as goal

pub loop-place-init : goal.loop-place-init
loop-place-init c = λ k above inside. c.requires.held k 0 inside

pub give-requires : goal.give-requires
give-requires c =
    c.loop-place.invariant c.loop-place.place-index (omega arith) c.loop-place-test.true

pub loop-place-preserved : goal.loop-place-preserved
loop-place-preserved c = λ k above inside.
    give_keeps c.loop-place.pool c.give.new.self
    (get_or c.args.places.now c.loop-place.place-index 0)
    (block_at (get_or c.args.places.now k 0) 18) c.give.ensures.given
    (λ same. c.requires.apart c.loop-place.place-index k 0 (omega arith) inside (sym same))
    (c.loop-place.invariant k (omega arith) inside)
