use Rattle.std.proofs.Common.{◌≡◌, ◌-◌, List, Some, sym, ap, ◌∙◌, subst, arith}
use Rattle.std.proofs.lemmas.List.{with_items_is}
use Rattle.std.specs.Vec.{with_items}
use Rattle.hpt_pool.specs.declared.tree.Node.{Node}
use Rattle.hpt_pool.specs.Pool.{PoolState, block_at, lowest_place, with_block, taken_with, IsLowest, FitsNowhere, IsSound}
use Rattle.hpt_pool.specs.Tree.{blocks_below, tree_pool, IsTreePool}
use Rattle.hpt_pool.specs.Free.{IsFirstFree}
use Rattle.hpt_pool.proofs.Lowest.{lowest_none}
use Rattle.hpt_pool.proofs.TreePool.{none_fits, FindsLowest, first_fits, IsPoolAfter, pool_with, seen_root}
use Rattle.hpt_pool.proofs.pool.Pool.take.Goals as goal

-- ---- no block is as large
nowhere : (c : goal.Then-largest-order) → FitsNowhere c.args.self.now c.args.order
nowhere c =
    let root = seen_root c.self.inside.base c.self.inside.order c.self.inside.nodes.items
    c.index.result.now c.largest.result c.self.invariant c.index.ensures c.largest.ensures in
    subst (λ (p : PoolState). FitsNowhere p c.args.order) c.self.view_is
    (none_fits c.self.inside.base c.self.inside.order c.args.order c.self.inside.nodes.items
    c.self.invariant (let less = c.if-largest-order.true in omega arith)
    c.requires.at_least)

pub returns-then-largest-order-clause-place : goal.returns-then-largest-order-clause-place
returns-then-largest-order-clause-place c =
    sym (lowest_none c.args.self.now c.args.order (nowhere c))

pub returns-then-largest-order-clause-lowest : goal.returns-then-largest-order-clause-lowest
returns-then-largest-order-clause-lowest c = nowhere c

-- ---- the first that is
found :
    (c : goal.After-self-1)
    → FindsLowest (tree_pool c.self.inside.base c.self.inside.order c.self.inside.nodes.items)
    c.args.order c.take_first.result
found c =
    let root = seen_root c.self.inside.base c.self.inside.order c.self.inside.nodes.items
    c.index.result.now c.largest.result c.self.invariant c.index.ensures c.largest.ensures in
    let large = c.if-largest-order.false in
    first_fits c.self.inside.base c.self.inside.order c.args.order c.take_first.result
    c.self.inside.nodes.items c.self.invariant c.requires.at_least (omega arith)
    (subst
    (λ (nodes : List Node).
    IsFirstFree (blocks_below (c.self.inside.order - 18) c.self.inside.base nodes)
    (c.self.inside.order - 18) c.self.inside.base c.args.order c.take_first.result)
    c.deref_mut.ensures.value c.take_first.ensures.first)

pub returns-clause-place : goal.returns-clause-place
returns-clause-place c =
    subst (λ (p : PoolState). Some c.take_first.result ≡ lowest_place p c.args.order) c.self.view_is
    (sym (found c).found)

pub returns-clause-lowest : goal.returns-clause-lowest
returns-clause-lowest c =
    subst (λ (p : PoolState). IsLowest p c.args.order c.take_first.result) c.self.view_is
    (found c).lowest

-- ---- the pool at the end
made :
    (c : goal.After-self-1)
    → IsPoolAfter c.self.inside.base c.self.inside.order c.take_first.new.nodes
    (with_block (tree_pool c.self.inside.base c.self.inside.order c.self.inside.nodes.items)
    (block_at c.take_first.result c.args.order))
made c =
    pool_with c.self.inside.base c.self.inside.order c.args.order c.take_first.result
    c.self.inside.nodes.items c.take_first.new.nodes c.self.invariant c.requires.at_least
    (found c).lowest
    (c.take_first.ensures.taken
    ∙ ap
    (λ (nodes : List Node).
    taken_with (blocks_below (c.self.inside.order - 18) c.self.inside.base nodes)
    (block_at c.take_first.result c.args.order)) c.deref_mut.ensures.value)
    c.take_first.ensures.tree

items_are :
    (c : goal.After-self-1)
    → (with_items c.self.inside.nodes c.take_first.new.nodes).items ≡ c.take_first.new.nodes
items_are c =
    with_items_is c.self.inside.nodes c.take_first.new.nodes
    (c.take_first.auto.nodes ∙ c.deref_mut.ensures.len)

pub invariant_of-self : goal.invariant_of-self
invariant_of-self c =
    subst (λ (nodes : List Node). IsTreePool c.self.inside.base c.self.inside.order nodes)
    (sym (items_are c)) (made c).tree

pub returns-clause-taken : goal.returns-clause-taken
returns-clause-taken c =
    ap (λ (nodes : List Node). tree_pool c.self.inside.base c.self.inside.order nodes) (items_are c)
    ∙ (made c).now
    ∙ ap (λ (p : PoolState). with_block p (block_at c.take_first.result c.args.order))
    c.self.view_is

pub returns-clause-sound : goal.returns-clause-sound
returns-clause-sound c =
    subst (λ (nodes : List Node). IsSound (tree_pool c.self.inside.base c.self.inside.order nodes))
    (sym (items_are c)) (made c).tree.sound
