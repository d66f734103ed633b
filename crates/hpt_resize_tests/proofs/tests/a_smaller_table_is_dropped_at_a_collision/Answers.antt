use Rattle.std.proofs.Common.{sym, subst}
use Rattle.hpt_pool.specs.Pool.{block_at}
use Rattle.hpt_pool.proofs.Kept.{take_holds}
use Rattle.hpt_resize.specs.Resize.{IsElsewhere}
use Rattle.hpt_resize_tests.proofs.tests.a_smaller_table_is_dropped_at_a_collision.Goals as goal

pub commit-answer-requires-clause-taken : goal.commit-answer-requires-clause-taken
commit-answer-requires-clause-taken g c =
    let taken = take_holds c.in_ok-pool.pool c.take.new.self 19 c.in-Some.place
    c.in-Some.ensures.taken in
    (c.prepare.ensures.kept (block_at c.in-Some.place 19) taken
    (subst (λ o. IsElsewhere o (block_at c.in-Some.place 19)) (sym c.none-resize.ensures)
    tt)).0
