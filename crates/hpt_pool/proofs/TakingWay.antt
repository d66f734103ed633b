-- The way down to the first free block, and what taking it makes of the tree.
use Rattle.std.proofs.Common.{◌≡◌, ℕ, suc, ◌+◌, ◌-◌, ◌*◌, ◌^◌, ◌<◌, ◌≤◌, List, length, set, refl, sym, ap, ◌∙◌, subst, arith}
use Rattle.hpt_pool.specs.declared.tree.Node.{Node}
use Rattle.hpt_pool.specs.declared.tree.Node.TheVariants.{Taken, Open}
use Rattle.hpt_pool.specs.Tree.{root_of, left_of, largest_of, IsTree}
use Rattle.hpt_pool.specs.Way.{node_at, IsWay, AreMended}
use Rattle.hpt_pool.proofs.TreeHalves.{double_order}
use Rattle.hpt_pool.proofs.Truth.{most}
use Rattle.hpt_pool.proofs.Parts.{half_trees}
use Rattle.hpt_pool.proofs.Subtrees.{tree_at, end_at, sizes, tree_whole, root-tree, left-tree, right-tree, ChangesWithin, changes_wider, changes_one, tree_root_set, made_left, made_right}
use Rattle.hpt_pool.proofs.Ways.{Steps, inside_nodes, HasHalvesIn, has_halves, way_on, mended_on, mended_none, to_left, to_right}
use Rattle.hpt_pool.proofs.Taking.{TakesFirst, TakesIn, right_some, takes_whole, takes_left, takes_right}

-- At a node on the way: its tree has such a block, and where its first one is taken and the nodes
-- above are mended, the first one of the whole tree is.
pub record TakesBelow (height place order : ℕ) (nodes : List Node) (lower index turns first : ℕ) :
    Type 0 where
  pub low : lower ≤ height
  pub way : IsWay (height - lower) lower index turns
  pub tree : IsTree lower (tree_at lower index nodes)
  pub some : order ≤ largest_of (node_at nodes index)
  pub ends : first + 2 ^ (18 + lower) ≤ place + 2 ^ (18 + height)
  pub closes :
      (now after : List Node) (answer : ℕ)
      → ChangesWithin index (end_at lower index) nodes now
      → TakesFirst lower first order (tree_at lower index nodes) (tree_at lower index now) answer
      → AreMended (height - lower) lower index turns now after
      → TakesFirst height place order nodes after answer

-- ---- the root
root_takes :
    (height place order : ℕ) (nodes : List Node)
    → IsTree height nodes
    → order ≤ largest_of (root_of nodes)
    → TakesBelow height place order nodes height 0 0 place
unfolding IsWay
root_takes height place order nodes tree some =
    let whole = tree_whole height nodes tree.whole in
    record {
      low = omega arith;
      way =
          subst (λ n. IsWay n height 0 0) (let e : 0 ≡ height - height = omega arith in e)
          (refl, refl);
      tree = subst (λ (list : List Node). IsTree height list) (sym whole) tree;
      some = some;
      ends = omega arith;
      closes = λ now after answer changes takes mended.
          subst (λ (list : List Node). TakesFirst height place order nodes list answer)
          (sym (mended_none height 0 0 now after mended))
          (subst (λ (list : List Node). TakesFirst height place order nodes list answer)
          (tree_whole height now (ap (λ n. n + 1) changes.long ∙ tree.whole))
          (subst
          (λ (list : List Node).
          TakesFirst height place order list (tree_at height 0 now) answer) whole takes));
    }

pub takes_from :
    (height place order : ℕ) (nodes : List Node) (lower index turns : ℕ)
    → lower ≡ height
    → index ≡ 0
    → turns ≡ 0
    → IsTree height nodes
    → order ≤ largest_of (root_of nodes)
    → TakesBelow height place order nodes lower index turns place
takes_from height place order nodes lower index turns height_is index_is turns_is tree some =
    subst (λ n. TakesBelow height place order nodes n index turns place) (sym height_is)
    (subst (λ n. TakesBelow height place order nodes height n turns place) (sym index_is)
    (subst (λ n. TakesBelow height place order nodes height 0 n place) (sym turns_is)
    (root_takes height place order nodes tree some)))

-- ---- a half
-- What is not taken as a whole is taken in a half.
in_half :
    (height place order lower index turns first : ℕ) (nodes : List Node)
    → TakesBelow height place order nodes (suc lower) index turns first
    → 18 ≤ order
    → (18 + suc lower ≡ order → ⊥)
    → TakesIn (suc lower) lower order (tree_at (suc lower) index nodes)
in_half height place order lower index turns first nodes old least other =
    let limit = most (suc lower) (tree_at (suc lower) index nodes) old.tree.truthful in
    let root = ap largest_of (root-tree (suc lower) index nodes) in
    let some = old.some in
    record { is = refl; tree = old.tree; some = omega arith; least = least; small = omega arith }

takes_left_half :
    (height place order lower turns above above_turns first : ℕ) (nodes : List Node)
    → TakesBelow height place order nodes (suc lower) above above_turns first
    → Steps (suc lower) lower (above + 1) turns above above_turns
    → length nodes + 1 ≡ 2 ^ (height + 1)
    → 18 ≤ order
    → (18 + suc lower ≡ order → ⊥)
    → order ≤ largest_of (node_at nodes (above + 1))
    → TakesBelow height place order nodes lower (above + 1) turns first
takes_left_half height place order lower turns above above_turns first nodes old step whole least
    other some =
    let tree : List Node = tree_at (suc lower) above nodes in
    let before = in_half height place order lower above above_turns first nodes old least other in
    let low = old.low in
    let ends = old.ends in
    let double = double_order lower in
    let size = sizes lower in
    let positive = size.some in
    let half_size = size.half in
    let all_size = size.whole in
    let trees = half_trees (suc lower) lower (tree_at (suc lower) above nodes) refl old.tree in
    record {
      low = omega arith;
      way =
          way_on height (suc lower) lower (above + 1) turns above above_turns old.low step old.way;
      tree = subst (λ (list : List Node). IsTree lower list) (left-tree lower above nodes) trees.0;
      some = some;
      ends = omega arith;
      closes = λ now after answer changes takes mended.
          let up = mended_on height (suc lower) lower (above + 1) turns above above_turns now after
          old.low step mended in
          old.closes (set now above (Open up.0)) after answer
          (changes_wider (above + 1) (end_at lower (above + 1)) above (end_at (suc lower) above)
          above nodes now (Open up.0) (omega arith) (omega arith) (omega arith) (omega arith)
          changes)
          (takes_left (suc lower) lower first order answer up.0 (tree_at (suc lower) above nodes)
          (tree_at (suc lower) above (set now above (Open up.0)))
          (tree_at lower (above + 1) now) before
          (made_left lower above up.0 nodes now
          (inside_nodes height (suc lower) above above_turns nodes whole old.low old.way)
          changes up.1)
          (subst
          (λ (list : List Node).
          TakesFirst lower first order list (tree_at lower (above + 1) now) answer)
          (sym (left-tree lower above nodes)) takes))
          up.2;
    }

takes_right_half :
    (height place order lower turns above above_turns first : ℕ) (nodes : List Node)
    → TakesBelow height place order nodes (suc lower) above above_turns first
    → Steps (suc lower) lower (above + 2 ^ suc lower) turns above above_turns
    → length nodes + 1 ≡ 2 ^ (height + 1)
    → 18 ≤ order
    → (18 + suc lower ≡ order → ⊥)
    → largest_of (node_at nodes (above + 1)) < order
    → TakesBelow height place order nodes lower (above + 2 ^ suc lower) turns
    (first + 2 ^ (18 + lower))
takes_right_half height place order lower turns above above_turns first nodes old step whole least
    other below =
    let before = in_half height place order lower above above_turns first nodes old least other in
    let low = old.low in
    let ends = old.ends in
    let double = double_order lower in
    let size = sizes lower in
    let positive = size.some in
    let half_size = size.half in
    let next_size = size.next in
    let all_size = size.whole in
    let trees = half_trees (suc lower) lower (tree_at (suc lower) above nodes) refl old.tree in
    let left = ap largest_of
    (ap root_of (left-tree lower above nodes) ∙ root-tree lower (above + 1) nodes) in
    let less : largest_of (root_of (left_of (suc lower) (tree_at (suc lower) above nodes))) < order
    = omega arith in
    let right = ap largest_of
    (ap root_of (right-tree lower above nodes) ∙ root-tree lower (above + 2 ^ suc lower) nodes)
    in
    let some = right_some (suc lower) lower order (tree_at (suc lower) above nodes) before less in
    record {
      low = omega arith;
      way =
          way_on height (suc lower) lower (above + 2 ^ suc lower) turns above above_turns old.low
          step old.way;
      tree = subst (λ (list : List Node). IsTree lower list) (right-tree lower above nodes) trees.1;
      some = omega arith;
      ends = omega arith;
      closes = λ now after answer changes takes mended.
          let up = mended_on height (suc lower) lower (above + 2 ^ suc lower) turns above
          above_turns now after old.low step mended in
          old.closes (set now above (Open up.0)) after answer
          (changes_wider (above + 2 ^ suc lower) (end_at lower (above + 2 ^ suc lower)) above
          (end_at (suc lower) above) above nodes now (Open up.0) (omega arith) (omega arith)
          (omega arith) (omega arith) changes)
          (takes_right (suc lower) lower first (first + 2 ^ (18 + lower)) order answer up.0
          (tree_at (suc lower) above nodes)
          (tree_at (suc lower) above (set now above (Open up.0)))
          (tree_at lower (above + 2 ^ suc lower) now) before less refl
          (made_right lower above up.0 nodes now
          (inside_nodes height (suc lower) above above_turns nodes whole old.low old.way)
          changes up.1)
          (subst
          (λ (list : List Node).
          TakesFirst lower (first + 2 ^ (18 + lower)) order list
          (tree_at lower (above + 2 ^ suc lower) now) answer)
          (sym (right-tree lower above nodes)) takes))
          up.2;
    }

-- ---- the same, as the loop goes
pub takes_down_left :
    (height place order level lower index turns above above_turns first : ℕ) (nodes : List Node)
    → lower + 1 ≡ level
    → index ≡ above + 1
    → turns ≡ above_turns * 2
    → TakesBelow height place order nodes level above above_turns first
    → length nodes + 1 ≡ 2 ^ (height + 1)
    → 18 ≤ order
    → (18 + level ≡ order → ⊥)
    → order ≤ largest_of (node_at nodes (above + 1))
    → TakesBelow height place order nodes lower index turns first
takes_down_left height place order level lower index turns above above_turns first nodes level_is
    index_is turns_are old whole least other some =
    let is : level ≡ suc lower = omega arith in
    subst (λ n. TakesBelow height place order nodes lower n turns first) (sym index_is)
    (takes_left_half height place order lower turns above above_turns first nodes
    (subst (λ n. TakesBelow height place order nodes n above above_turns first) is old)
    (to_left lower turns above above_turns turns_are) whole least (λ same. other (omega arith))
    some)

pub takes_down_right :
    (height place order level lower index turns above above_turns first next : ℕ)
    (nodes : List Node)
    → lower + 1 ≡ level
    → index ≡ above + 2 ^ level
    → turns ≡ above_turns * 2 + 1
    → next ≡ first + 2 ^ (18 + lower)
    → TakesBelow height place order nodes level above above_turns first
    → length nodes + 1 ≡ 2 ^ (height + 1)
    → 18 ≤ order
    → (18 + level ≡ order → ⊥)
    → largest_of (node_at nodes (above + 1)) < order
    → TakesBelow height place order nodes lower index turns next
takes_down_right height place order level lower index turns above above_turns first next nodes
    level_is index_is turns_are next_is old whole least other below =
    let is : level ≡ suc lower = omega arith in
    subst (λ n. TakesBelow height place order nodes lower n turns next)
    (sym (index_is ∙ ap (λ n. above + 2 ^ n) is))
    (subst (λ n. TakesBelow height place order nodes lower (above + 2 ^ suc lower) turns n)
    (sym next_is)
    (takes_right_half height place order lower turns above above_turns first nodes
    (subst (λ n. TakesBelow height place order nodes n above above_turns first) is old)
    (to_right lower turns above above_turns turns_are) whole least
    (λ same. other (omega arith)) below))

-- A block that is larger than a leaf's has halves.
pub takes_halves :
    (height place order lower index turns first : ℕ) (nodes : List Node)
    → TakesBelow height place order nodes lower index turns first
    → height ≤ 16
    → length nodes + 1 ≡ 2 ^ (height + 1)
    → 18 ≤ order
    → (18 + lower ≡ order → ⊥)
    → HasHalvesIn lower index turns nodes
takes_halves height place order lower index turns first nodes here most_high whole least other =
    let limit = most lower (tree_at lower index nodes) here.tree.truthful in
    let root = ap largest_of (root-tree lower index nodes) in
    let some = here.some in
    has_halves height lower index turns nodes most_high whole here.low here.way (omega arith)

-- ---- the block is reached
pub takes_here :
    (height place order lower index turns first : ℕ) (nodes after : List Node)
    → TakesBelow height place order nodes lower index turns first
    → 18 + lower ≡ order
    → AreMended (height - lower) lower index turns (set nodes index Taken) after
    → TakesFirst height place order nodes after first
takes_here height place order lower index turns first nodes after here is mended =
    let size = sizes lower in
    let positive = size.some in
    let half_size = size.half in
    let root = ap largest_of (root-tree lower index nodes) in
    let some = here.some in
    here.closes (set nodes index Taken) after first
    (changes_one index (end_at lower index) index nodes Taken (omega arith) (omega arith))
    (subst
    (λ (list : List Node). TakesFirst lower first order (tree_at lower index nodes) list first)
    (sym (tree_root_set lower index nodes Taken))
    (takes_whole lower first order (tree_at lower index nodes) here.tree (omega arith) is))
    mended
