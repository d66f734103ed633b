-- A tree by its root and its two halves, and with another root.
use Rattle.std.proofs.Common.{◌≡◌, ℕ, zero, suc, ◌+◌, ◌^◌, ◌<◌, ◌≤◌, List, [], ◌++◌, set, length, refl, sym, ap, ◌∙◌, subst, arith}
use Rattle.std.proofs.lemmas.List.{get_or-set_same}
use Rattle.hpt_pool.specs.declared.tree.Node.{Node}
use Rattle.hpt_pool.specs.declared.tree.Node.TheVariants.{Taken, Open}
use Rattle.hpt_pool.specs.Pool.{Block, block_at}
use Rattle.hpt_pool.specs.Tree.{root_of, left_of, right_of, block_or, blocks_below, hidden_blocks, largest_of, free_below, JoinsHalves, IsTruthful, IsTree}
use Rattle.hpt_pool.proofs.Shape.{HasParts, parts_of, root_set, is_whole, length-left, length-right}
use Rattle.hpt_pool.specs.Free.{IsLargestFree}
use Rattle.hpt_pool.proofs.Truth.{hides_joined, halves}

pub parts_truthful :
    (height : ℕ) (nodes : List Node) (top : Node) (left right : List Node)
    → HasParts (suc height) nodes top left right
    → JoinsHalves (18 + height) (largest_of (root_of left)) (largest_of (root_of right))
    (free_below top (18 + suc height))
    → IsTruthful height left
    → IsTruthful height right
    → IsTruthful (suc height) nodes
unfolding IsTruthful hidden_blocks
parts_truthful height nodes top left right parts joins truth_left truth_right =
    let Hides : Node → List Node → List Node → Type 0 = λ root low high. IsLargestFree
    (blocks_below height 0 low ++ blocks_below height (0 + 2 ^ (18 + height)) high) (suc height)
    0 (free_below root (18 + suc height)) in
    let made : Hides top left right = hides_joined height 0 left right
    (free_below top (18 + suc height)) truth_left truth_right joins in
    let by_root : Hides (root_of nodes) left right = subst (λ (root : Node). Hides root left right)
    (sym parts.root_is) made in
    let by_left : Hides (root_of nodes) (left_of (suc height) nodes) right = subst
    (λ (low : List Node). Hides (root_of nodes) low right) (sym parts.left_is) by_root in
    let by_right : Hides (root_of nodes) (left_of (suc height) nodes) (right_of (suc height) nodes)
    = subst (λ (high : List Node). Hides (root_of nodes) (left_of (suc height) nodes) high)
    (sym parts.right_is) by_left in (
      by_right,
      subst (λ (low : List Node). IsTruthful height low) (sym parts.left_is) truth_left,
      subst (λ (high : List Node). IsTruthful height high) (sym parts.right_is) truth_right,
    )

pub parts_blocks :
    (height place : ℕ) (nodes : List Node) (root : Node) (left right : List Node)
    → HasParts (suc height) nodes root left right
    → blocks_below (suc height) place nodes
    ≡ block_or root (block_at place (18 + suc height))
    (blocks_below height place left ++ blocks_below height (place + 2 ^ (18 + height)) right)
unfolding blocks_below
parts_blocks height place nodes root left right parts =
    let Blocks : Node → List Node → List Node → List Block = λ top low high. block_or top
    (block_at place (18 + suc height))
    (blocks_below height place low ++ blocks_below height (place + 2 ^ (18 + height)) high) in
    ap (λ (top : Node). Blocks top (left_of (suc height) nodes) (right_of (suc height) nodes))
    parts.root_is
    ∙ ap (λ (low : List Node). Blocks root low (right_of (suc height) nodes)) parts.left_is
    ∙ ap (λ (high : List Node). Blocks root left high) parts.right_is

pub blocks_hidden :
    (height place : ℕ) (nodes : List Node)
    → blocks_below height place nodes
    ≡ block_or (root_of nodes) (block_at place (18 + height)) (hidden_blocks height place nodes)
unfolding blocks_below hidden_blocks
blocks_hidden zero place nodes = refl
blocks_hidden (suc height) place nodes = refl

-- A root with a number hides no block.
pub open_blocks :
    (height place : ℕ) (nodes : List Node) (largest : ℕ)
    → root_of nodes ≡ Open largest
    → blocks_below (suc height) place nodes
    ≡ blocks_below height place (left_of (suc height) nodes)
    ++ blocks_below height (place + 2 ^ (18 + height)) (right_of (suc height) nodes)
unfolding hidden_blocks
open_blocks height place nodes largest is =
    blocks_hidden (suc height) place nodes
    ∙ ap
    (λ (root : Node).
    block_or root (block_at place (18 + suc height)) (hidden_blocks (suc height) place nodes))
    is

pub root_open : (root : Node) → 18 ≤ largest_of root → root ≡ Open (largest_of root)
root_open Taken some = absurd (omega arith)
root_open (Open largest) some = refl

-- ---- another root
pub some_nodes :
    (height : ℕ) (nodes : List Node) → length nodes + 1 ≡ 2 ^ (height + 1) → 0 < length nodes
some_nodes height nodes whole =
    let pieces = is_whole height nodes whole in omega (arith, pieces.some, pieces.whole)

-- Another root of which the same is free keeps the tree truthful.
pub root_truthful :
    (height : ℕ) (nodes : List Node) (root : Node)
    → 0 < length nodes
    → IsTruthful height nodes
    → free_below root (18 + height) ≡ free_below (root_of nodes) (18 + height)
    → IsTruthful height (set nodes 0 root)
unfolding IsTruthful
root_truthful zero nodes root some truth same =
    subst (λ (n : ℕ). IsLargestFree [] 0 0 n)
    (sym
    (ap (λ (top : Node). free_below top 18) (get_or-set_same nodes 0 root Taken some)
    ∙ same)) truth
root_truthful (suc height) nodes root some truth same =
    let left = left_of (suc height) nodes in
    let right = right_of (suc height) nodes in
    let pieces = halves height 0 nodes truth in
    parts_truthful height (set nodes 0 root) root left right
    (root_set (suc height) nodes (root_of nodes) root left right some
    (parts_of (suc height) nodes))
    (subst
    (λ n. JoinsHalves (18 + height) (largest_of (root_of left)) (largest_of (root_of right)) n)
    (sym same) pieces.joins) pieces.truth_left pieces.truth_right

-- The blocks under another root.
pub root_blocks :
    (height place : ℕ) (nodes : List Node) (root : Node)
    → 0 < length nodes
    → blocks_below height place (set nodes 0 root)
    ≡ block_or root (block_at place (18 + height)) (hidden_blocks height place nodes)
unfolding blocks_below hidden_blocks
root_blocks zero place nodes root some =
    ap (λ (top : Node). block_or top (block_at place 18) [])
    (get_or-set_same nodes 0 root Taken some)
root_blocks (suc height) place nodes root some =
    parts_blocks height place (set nodes 0 root) root (left_of (suc height) nodes)
    (right_of (suc height) nodes)
    (root_set (suc height) nodes (root_of nodes) root (left_of (suc height) nodes)
    (right_of (suc height) nodes) some (parts_of (suc height) nodes))

-- ---- the halves as trees of their own
pub half_trees :
    (height lower : ℕ) (nodes : List Node)
    → height ≡ suc lower
    → IsTree height nodes
    → IsTree lower (left_of height nodes) × IsTree lower (right_of height nodes)
half_trees height lower nodes is tree =
    subst
    (λ (n : ℕ).
    IsTree n nodes → IsTree lower (left_of n nodes) × IsTree lower (right_of n nodes)) (sym is)
    (of_next lower nodes) tree where
      of_next :
          (low : ℕ) (list : List Node)
          → IsTree (suc low) list
          → IsTree low (left_of (suc low) list) × IsTree low (right_of (suc low) list)
      of_next low list whole =
          let pieces = halves low 0 list whole.truthful in
          let counts = is_whole (suc low) list whole.whole in
          let next : 2 ^ (low + 1) ≡ 2 ^ suc low = ap (λ n. 2 ^ n)
          (let e : low + 1 ≡ suc low = omega arith in e) in (
            record {
              whole = length-left (suc low) list counts ∙ sym next;
              truthful = pieces.truth_left;
            },
            record {
              whole = length-right (suc low) list counts ∙ sym next;
              truthful = pieces.truth_right;
            },
          )

-- A tree of two truthful halves that the root joins.
pub truthful_at :
    (height lower : ℕ) (nodes : List Node) (top : Node) (left right : List Node)
    → height ≡ suc lower
    → HasParts height nodes top left right
    → JoinsHalves (18 + lower) (largest_of (root_of left)) (largest_of (root_of right))
    (free_below top (18 + height))
    → IsTruthful lower left
    → IsTruthful lower right
    → IsTruthful height nodes
truthful_at height lower nodes top left right is parts joins truth_left truth_right =
    subst
    (λ (n : ℕ).
    HasParts n nodes top left right
    → JoinsHalves (18 + lower) (largest_of (root_of left)) (largest_of (root_of right))
    (free_below top (18 + n))
    → IsTruthful n nodes) (sym is)
    (λ here joined. parts_truthful lower nodes top left right here joined truth_left truth_right)
    parts joins
