use Rattle.hpt_pool.proofs.Kept.{take_holds}
use Rattle.store_tests.proofs.pool.a_pool_of_the_largest_order_is_given_back.Goals as goal

pub give-requires : goal.give-requires
give-requires g c =
    take_holds c.in_ok-pool.pool c.take.new.self 34 c.in-Some.whole c.in-Some.ensures.taken
