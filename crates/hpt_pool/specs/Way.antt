-- The way from a tree's root down to one of its nodes, and how the nodes on it are mended.
use Rattle.std.specs.Prelude.{◌≡◌, ℕ, zero, suc, ◌+◌, ◌/◌, ◌%◌, ◌^◌, List, slice_index_or, slice_set}
use Rattle.hpt_pool.specs.Tree.{largest_of, JoinsHalves}
use Rattle.hpt_pool.specs.declared.tree.Node.{Node}
use Rattle.hpt_pool.specs.declared.tree.Node.TheVariants.{Taken, Open}

-- The node at this index of the list.
abbrev pub node_at : List Node → ℕ → Node
node_at nodes index = slice_index_or nodes index Taken

-- ---- the way
-- A node of this height is a half of the one above it: the left half follows that one at once, the
-- right half the left one. The lowest of the turns says which half.
pub record IsHalf (height index turns above : ℕ) : Type 0 where
  pub left : turns % 2 ≡ 0 → index ≡ above + 1
  pub right : turns % 2 ≡ 1 → index ≡ above + 2 ^ suc height

-- By so many turns the way leads from the root to the node of this height at this index.
unfoldable pub IsWay : ℕ → ℕ → ℕ → ℕ → Type 0
IsWay zero height index turns = (index ≡ 0) × (turns ≡ 0)
IsWay (suc count) height index turns =
    (above : ℕ) × IsHalf height index turns above × IsWay count (suc height) above (turns / 2)

-- ---- the nodes on it
-- What the halves of the node of this height at this index leave free.
abbrev pub JoinsAt : ℕ → ℕ → List Node → ℕ → Type 0
JoinsAt height index nodes largest =
    JoinsHalves (17 + height) (largest_of (node_at nodes (index + 1)))
    (largest_of (node_at nodes (index + 2 ^ height))) largest

-- Each node above the one at this index, from the lowest on, is made to say what its halves leave
-- free.
unfoldable pub AreMended : ℕ → ℕ → ℕ → ℕ → List Node → List Node → Type 0
AreMended zero height index turns nodes after = after ≡ nodes
AreMended (suc count) height index turns nodes after =
    (above : ℕ) × (largest : ℕ) × IsHalf height index turns above
    × JoinsAt (suc height) above nodes largest
    × AreMended count (suc height) above (turns / 2) (slice_set nodes above (Open largest)) after
