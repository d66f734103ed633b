use Rattle.std.proofs.Common.{◌≡◌, ◌-◌, List, sym, ap, ◌∙◌, subst}
use Rattle.std.proofs.lemmas.List.{with_items_is}
use Rattle.std.specs.Vec.{with_items}
use Rattle.hpt_pool.specs.declared.tree.Node.{Node}
use Rattle.hpt_pool.specs.Pool.{PoolState, without_block, taken_without, IsSound}
use Rattle.hpt_pool.specs.Tree.{blocks_below, tree_pool, IsTreePool}
use Rattle.hpt_pool.proofs.TreePool.{IsPoolAfter, pool_without}
use Rattle.hpt_pool.proofs.pool.Pool.give.Goals as goal

made :
    (c : goal.After-self-1)
    → IsPoolAfter c.self.inside.base c.self.inside.order c.give_back.new.nodes
    (without_block (tree_pool c.self.inside.base c.self.inside.order c.self.inside.nodes.items)
    c.args.place)
made c =
    pool_without c.self.inside.base c.self.inside.order c.args.place c.self.inside.nodes.items
    c.give_back.new.nodes c.self.invariant
    (c.give_back.ensures.given
    ∙ ap
    (λ (nodes : List Node).
    taken_without (blocks_below (c.self.inside.order - 18) c.self.inside.base nodes)
    c.args.place) c.deref_mut.ensures.value)
    c.give_back.ensures.tree

items_are :
    (c : goal.After-self-1)
    → (with_items c.self.inside.nodes c.give_back.new.nodes).items ≡ c.give_back.new.nodes
items_are c =
    with_items_is c.self.inside.nodes c.give_back.new.nodes
    (c.give_back.auto.nodes ∙ c.deref_mut.ensures.len)

pub invariant_of-self : goal.invariant_of-self
invariant_of-self c =
    subst (λ (nodes : List Node). IsTreePool c.self.inside.base c.self.inside.order nodes)
    (sym (items_are c)) (made c).tree

pub returns-clause-given : goal.returns-clause-given
returns-clause-given c =
    ap (λ (nodes : List Node). tree_pool c.self.inside.base c.self.inside.order nodes) (items_are c)
    ∙ (made c).now
    ∙ ap (λ (p : PoolState). without_block p c.args.place) c.self.view_is

pub returns-clause-sound : goal.returns-clause-sound
returns-clause-sound c =
    subst (λ (nodes : List Node). IsSound (tree_pool c.self.inside.base c.self.inside.order nodes))
    (sym (items_are c)) (made c).tree.sound
