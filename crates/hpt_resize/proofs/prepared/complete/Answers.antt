use Rattle.std.proofs.Common.{sym, ◌∙◌, subst, Contains}
use Rattle.hpt_pool.specs.Pool.{block_at}
use Rattle.hpt_pool.proofs.Kept.{give_keeps}
use Rattle.hpt_resize.proofs.prepared.complete.Goals as goal

-- the other block is given back, and begins elsewhere
pub returns-in-Err-clause-taken : goal.returns-in-Err-clause-taken
returns-in-Err-clause-taken c =
    λ apart.
    give_keeps c.args.pool.now c.give.new.self c.place-place.result
    (block_at c.args.current.now.place c.args.current.now.order) c.give.ensures.given
    (λ same. apart (sym c.place-place.ensures ∙ sym same)) c.requires.taken

pub returns-clause-taken : goal.returns-clause-taken
returns-clause-taken c =
    λ apart.
    give_keeps c.args.pool.now c.give-2.new.self c.args.current.now.place
    (block_at c.place-place.result c.order-order.result) c.give-2.ensures.given
    (λ same. apart (sym c.place-place.ensures ∙ same))
    (subst (λ n. Contains c.args.pool.now.taken (block_at n c.order-order.result))
    (sym c.place-place.ensures)
    (subst (λ n. Contains c.args.pool.now.taken (block_at c.args.pending.place n))
    (sym c.order-order.ensures.value) c.requires.held))
