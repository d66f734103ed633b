use Rattle.std.proofs.Common.{◌∙◌, Contains, ap, subst, sym}
use Rattle.hpt_pool.specs.Pool.{PoolState, block_at, without_block}
use Rattle.papr_uses.proofs.Taken.{same_again}
use Rattle.papr_uses.proofs.pools.take_and_give.Goals as goal
use Rattle.hpt_pool.proofs.Kept.{with_contains}

pub give-requires : goal.give-requires
give-requires c =
    let b = block_at c.in_ok-place.place c.args.order in
    subst (λ (p : PoolState). Contains p.taken b) (sym c.in_ok-place.ensures.taken)
    (with_contains c.args.pool.now.taken b)

pub returns-clause-same : goal.returns-clause-same
returns-clause-same c =
    c.give.ensures.given
    ∙ ap (λ (p : PoolState). without_block p c.in_ok-place.place) c.in_ok-place.ensures.taken
    ∙ same_again c.args.pool.now c.args.order c.in_ok-place.place c.order-order.ensures.sound
    c.in_ok-place.ensures.lowest
