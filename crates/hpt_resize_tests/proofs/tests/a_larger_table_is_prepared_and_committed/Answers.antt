use Rattle.std.proofs.Common.{sym, subst}
use Rattle.hpt_pool.specs.Pool.{block_at}
use Rattle.hpt_pool.proofs.Kept.{take_holds}
use Rattle.hpt_resize.specs.Resize.{IsElsewhere}
use Rattle.hpt_resize_tests.proofs.tests.a_larger_table_is_prepared_and_committed.Goals as goal

-- the block is taken by the first call, and each prepare keeps it
pub commit-requires-clause-taken : goal.commit-requires-clause-taken
commit-requires-clause-taken g c =
    let taken = take_holds c.in_ok-pool.pool c.take.new.self 18 c.in-Some.place
    c.in-Some.ensures.taken in
    let first = c.prepare.ensures.kept (block_at c.in-Some.place 18) taken
    (subst (λ o. IsElsewhere o (block_at c.in-Some.place 18)) (sym c.none-resize.ensures) tt) in
    (c.prepare-2.ensures.kept (block_at c.in-Some.place 18) first.0 first.1).0
