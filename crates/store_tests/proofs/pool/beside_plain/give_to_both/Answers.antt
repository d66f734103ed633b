use Rattle.std.proofs.Common.{◌≡◌, ℕ, ◌==◌, true, not, rules, get_or, List, All, Contains, filter, sym, subst, arith}
use Rattle.std.proofs.lemmas.Bool.Decides.{nat_tests}
use Rattle.std.proofs.lemmas.Fn.{filter_same}
use Rattle.std.proofs.lemmas.List.Elements.{All-filter, filter_passes}
use Rattle.store_tests.specs.declared.pool.beside_plain.Held.{Held}
use Rattle.hpt_pool.specs.Pool.{PoolState, block_at, without_block}
use Rattle.hpt_pool.proofs.Kept.{give_keeps}
use Rattle.store_tests.proofs.pool.beside_plain.give_to_both.Goals as goal

pub give-requires : goal.give-requires
give-requires c =
    subst (λ (block : Held). Contains c.args.pool.now.taken (block_at block.place block.order))
    (sym c.index.ensures)
    (c.requires.held c.args.index c.index.result.now c.requires.index)

-- What is left has other places.
kept :
    (c : goal.After-retain)
    → c.retain.new.self.items
    ≡ filter (λ (block : Held). not (block.place == c.index.result.now.place)) c.args.held.now.items
kept c =
    filter_same _ (λ block. not (block.place == c.index.result.now.place)) _
    (λ x b f turn. search rules) _ _ c.retain.ensures.filtered

stays :
    (old new : PoolState) (place : ℕ) (blocks : List Held)
    → new ≡ without_block old place
    → All (λ (block : Held). Contains old.taken (block_at block.place block.order)) blocks
    → All (λ (block : Held). Contains new.taken (block_at block.place block.order))
    (filter (λ (block : Held). not (block.place == place)) blocks)
stays old new place blocks given held k d inside =
    let Holds : Held → Type 0 = λ block. Contains old.taken (block_at block.place block.order) in
    let here = All-filter (λ (block : Held). not (block.place == place)) Holds blocks held k d
    inside in
    let passes = filter_passes (λ (block : Held). not (block.place == place)) blocks k d inside in
    let block : Held = get_or (filter (λ (other : Held). not (other.place == place)) blocks) k d in
    give_keeps old new place (block_at block.place block.order) given (differs block.place passes)
    here where
      differs : (other : ℕ) → not (other == place) ≡ true → other ≡ place → ⊥
      differs other passes same = grind (arith, nat_tests, passes, same)

pub returns : goal.returns
returns c =
    subst
    (λ (blocks : List Held).
    All (λ (block : Held). Contains c.give.new.self.taken (block_at block.place block.order))
    blocks) (sym (kept c))
    (stays c.args.pool.now c.give.new.self c.index.result.now.place c.args.held.now.items
    c.give.ensures.given c.requires.held)
