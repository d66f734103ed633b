use Rattle.std.proofs.Common.{◌≡◌, ℕ, List, All, Contains, Option, IfSome, IfNone, sym, subst}
use Rattle.std.proofs.lemmas.List.Elements.{All-push}
use Rattle.store_tests.specs.declared.pool.beside_plain.Held.{Held}
use Rattle.hpt_pool.specs.Pool.{PoolState, block_at, with_block}
use Rattle.hpt_pool.proofs.Kept.{take_holds, take_keeps}
use Rattle.store_tests.proofs.pool.beside_plain.take_of_both.Goals as goal

stays :
    (old new : PoolState) (order : ℕ) (answer : Option ℕ) (blocks : List Held)
    → IfSome answer (λ place. new ≡ with_block old (block_at place order))
    → IfNone answer (new ≡ old)
    → All (λ (block : Held). Contains old.taken (block_at block.place block.order)) blocks
    → All (λ (block : Held). Contains new.taken (block_at block.place block.order)) blocks
stays old new order answer blocks made same held k d inside =
    take_keeps old new order answer _ made same (held k d inside)

pub returns-in_ok-push : goal.returns-in_ok-push
returns-in_ok-push g c =
    let Holds : Held → Type 0 = λ block. Contains c.take-taken.new.self.taken
    (block_at block.place block.order) in
    subst
    (λ (blocks : List Held).
    All
    (λ (block : Held).
    Contains c.take-taken.new.self.taken (block_at block.place block.order)) blocks)
    (sym c.in_ok-push.ensures.items)
    (All-push Holds c.args.held.now.items _
    (stays c.args.pool.now c.take-taken.new.self c.args.order c.take-taken.result
    c.args.held.now.items c.take-taken.ensures.taken c.take-taken.ensures.none
    c.requires.held)
    (take_holds c.args.pool.now c.take-taken.new.self c.args.order c.in-Some.place
    (rw c.in-Some.is at c.take-taken.ensures.taken)))

pub returns-in_default : goal.returns-in_default
returns-in_default g c =
    stays c.args.pool.now c.take-taken.new.self c.args.order c.take-taken.result
    c.args.held.now.items c.take-taken.ensures.taken c.take-taken.ensures.none c.requires.held
