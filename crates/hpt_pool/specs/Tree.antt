-- The tree over a pool's leaves of 2 ^ 18 bytes, and the taken blocks that it stands for.
use Rattle.std.specs.Prelude.{◌≡◌, ◌<◌, ℕ, zero, suc, ◌+◌, ◌-◌, ◌^◌, max, List, [], ◌∷◌, ◌++◌, length, slice_index_or, slice_range}
use Rattle.pool_range.specs.Ranges.{least_pool_order}
use Rattle.hpt_pool.specs.Pool.{Block, block_at, PoolState, IsSound}
use Rattle.hpt_pool.specs.Free.{IsLargestFree}
use Rattle.hpt_pool.specs.declared.tree.Node.{Node}
use Rattle.hpt_pool.specs.declared.tree.Node.TheVariants.{Taken, Open}

-- A tree of this height has 2 ^ height leaves. Its nodes are in one list: the root, then those of
-- the left half, then those of the right half.
abbrev pub root_of : List Node → Node
root_of nodes = slice_index_or nodes 0 Taken

-- The nodes of the left half, of which there are one less than leaves.
abbrev pub left_of : ℕ → List Node → List Node
left_of height nodes = slice_range nodes 1 (2 ^ height)

-- The nodes of the right half.
abbrev pub right_of : ℕ → List Node → List Node
right_of height nodes = slice_range nodes (2 ^ height) (length nodes)

-- ---- the blocks
-- A node that is a taken block hides what is below it.
abbrev pub block_or : Node → Block → List Block → List Block
block_or Taken block below = block ∷ []
block_or (Open largest) block below = below

-- The taken blocks of the tree whose first leaf is at this place, from the left to the right.
unfoldable pub blocks_below : ℕ → ℕ → List Node → List Block
blocks_below zero place nodes = block_or (root_of nodes) (block_at place least_pool_order) []
blocks_below (suc height) place nodes =
    block_or (root_of nodes) (block_at place (least_pool_order + suc height))
    (blocks_below height place (left_of (suc height) nodes)
    ++ blocks_below height (place + 2 ^ (least_pool_order + height)) (right_of (suc height) nodes))

-- The blocks of the two halves, which a taken root would hide.
unfoldable pub hidden_blocks : ℕ → ℕ → List Node → List Block
hidden_blocks zero place nodes = []
hidden_blocks (suc height) place nodes =
    blocks_below height place (left_of (suc height) nodes)
    ++ blocks_below height (place + 2 ^ (least_pool_order + height)) (right_of (suc height) nodes)

-- ---- what the nodes say
-- The largest order of a free block below the node, or 0 where none is free.
abbrev pub largest_of : Node → ℕ
largest_of Taken = 0
largest_of (Open largest) = largest

-- The largest order that the blocks of the halves leave free. Below a taken block nothing else is
-- taken, so that this is the node's own order.
abbrev pub free_below : Node → ℕ → ℕ
free_below Taken order = order
free_below (Open largest) order = largest

-- Each node says the truth of the blocks below it, whose places count from its first leaf.
unfoldable pub IsTruthful : ℕ → List Node → Type 0
IsTruthful zero nodes = IsLargestFree [] 0 0 (free_below (root_of nodes) least_pool_order)
IsTruthful (suc height) nodes =
    IsLargestFree (hidden_blocks (suc height) 0 nodes) (suc height) 0
    (free_below (root_of nodes) (least_pool_order + suc height))
    × IsTruthful height (left_of (suc height) nodes)
    × IsTruthful height (right_of (suc height) nodes)

-- What two halves of this order leave free: their whole where both are free as a whole, and
-- otherwise the larger of the two.
pub record JoinsHalves (order left right largest : ℕ) : Type 0 where
  pub whole : left ≡ order → right ≡ order → largest ≡ order + 1
  pub left_part : left < order → largest ≡ max left right
  pub right_part : right < order → largest ≡ max left right

-- There are as many nodes as the height asks for, and each says the truth.
pub record IsTree (height : ℕ) (nodes : List Node) : Type 0 where
  pub whole : length nodes + 1 ≡ 2 ^ (height + 1)
  pub truthful : IsTruthful height nodes

-- ---- the pool of a tree
-- The pool whose taken blocks are the tree's.
abbrev pub tree_pool : ℕ → ℕ → List Node → PoolState
tree_pool base order nodes =
    record {
      base = base;
      order = order;
      taken = blocks_below (order - least_pool_order) base nodes;
    }

-- The tree has the pool's leaves, and its blocks are sound.
pub record IsTreePool (base order : ℕ) (nodes : List Node) : Type 0 where
  pub sound : IsSound (tree_pool base order nodes)
  pub tree : IsTree (order - least_pool_order) nodes
