use Rattle.hpt_pool.proofs.Kept.{take_holds}
use Rattle.pool_bench.proofs.state.take_and_give.Goals as goal

pub give-requires : goal.give-requires
give-requires c = take_holds c.loop.pool c.take.new.self _ c.in-Some.place c.in-Some.ensures.taken
