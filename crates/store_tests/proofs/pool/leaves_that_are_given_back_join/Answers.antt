use Rattle.std.proofs.Common.{sym}
use Rattle.hpt_pool.specs.Pool.{block_at}
use Rattle.hpt_pool.proofs.Kept.{take_holds, take_keeps, give_keeps}
use Rattle.store_tests.proofs.pool.leaves_that_are_given_back_join.Goals as goal

-- the block is taken by the first call, and the second keeps it
pub give-requires : goal.give-requires
give-requires g c =
    take_keeps c.take.new.self c.take-2.new.self 18 c.take-2.result (block_at c.in-Some.first 18)
    c.take-2.ensures.taken c.take-2.ensures.none
    (take_holds c.in_ok-pool.pool c.take.new.self 18 c.in-Some.first c.in-Some.ensures.taken)

pub give-requires-2 : goal.give-requires-2
give-requires-2 g c =
    give_keeps c.take-2.new.self c.give.new.self c.in-Some.first (block_at c.in-Some-take.second 18)
    c.give.ensures.given (λ same. c.if-first-second.false (sym same))
    (take_holds c.take.new.self c.take-2.new.self 18 c.in-Some-take.second
    c.in-Some-take.ensures.taken)
