use Rattle.std.proofs.Common.{◌≡◌, ◌∙◌, Contains, ap, subst, sym}
use Rattle.hpt_pool.specs.Pool.{Block, PoolState, block_at, with_block, without_block}
use Rattle.papr_uses.proofs.Taken.{same_again, taken_apart}
use Rattle.papr_uses.proofs.pools.take_pair.Goals as goal
use Rattle.hpt_pool.proofs.Kept.{with_contains, with_keeps}

-- A block that was taken is there.
held : (old new : PoolState) (b : Block) → new ≡ with_block old b → Contains new.taken b
held old new b taken =
    subst (λ (p : PoolState). Contains p.taken b) (sym taken) (with_contains old.taken b)

-- A block stays taken when another one is taken.
stays :
    (old new : PoolState) (b kept : Block)
    → new ≡ with_block old b
    → Contains old.taken kept
    → Contains new.taken kept
stays old new b kept taken here =
    subst (λ (p : PoolState). Contains p.taken kept) (sym taken) (with_keeps old.taken b kept here)

pub give-requires : goal.give-requires
give-requires c =
    let b = block_at c.in_ok-place.place c.args.first in
    subst (λ (p : PoolState). Contains p.taken b) (sym c.in-None.ensures.none)
    (held c.args.pool.now c.take.new.self b c.in_ok-place.ensures.taken)

pub returns-in-Some-clause-apart : goal.returns-in-Some-clause-apart
returns-in-Some-clause-apart c =
    let b = block_at c.in_ok-place.place c.args.first in
    taken_apart c.take.new.self c.args.second c.in-Some.other b c.in-Some.ensures.lowest
    (held c.args.pool.now c.take.new.self b c.in_ok-place.ensures.taken)

pub returns-in-Some-clause-first : goal.returns-in-Some-clause-first
returns-in-Some-clause-first c =
    let b = block_at c.in_ok-place.place c.args.first in
    stays c.take.new.self c.take-2.new.self (block_at c.in-Some.other c.args.second) b
    c.in-Some.ensures.taken (held c.args.pool.now c.take.new.self b c.in_ok-place.ensures.taken)

pub returns-in-Some-clause-second : goal.returns-in-Some-clause-second
returns-in-Some-clause-second c =
    held c.take.new.self c.take-2.new.self (block_at c.in-Some.other c.args.second)
    c.in-Some.ensures.taken

pub returns-in-None-clause-neither : goal.returns-in-None-clause-neither
returns-in-None-clause-neither c =
    c.give.ensures.given
    ∙ ap (λ (p : PoolState). without_block p c.in_ok-place.place)
    (c.in-None.ensures.none ∙ c.in_ok-place.ensures.taken)
    ∙ same_again c.args.pool.now c.args.first c.in_ok-place.place c.order-order.ensures.sound
    c.in_ok-place.ensures.lowest
