-- Worked values, which the checker computes.
use Rattle.std.proofs.Common.{◌≡◌, List, [], ◌∷◌, Some, None, refl}
use Rattle.hpt_pool.specs.declared.error.PoolError.TheVariants.{Order, Unaligned, Past}
use Rattle.hpt_pool.specs.declared.tree.Node.TheVariants.{Taken, Open}
use Rattle.hpt_pool.specs.Tree.{blocks_below}
use Rattle.hpt_pool.specs.Pool.{Block, PoolState, block_at, pool_refusal, multiples, lowest_place, taken_with, taken_without}
use Rattle.pool_range.specs.Ranges.{range_refusal}

-- A pool of four leaves, and what is taken of it.
small : List Block → PoolState
small taken = record { base = 0x1000000000; order = 20; taken = taken }

first_leaf : Block
first_leaf = block_at 0x1000000000 18

second_leaf : Block
second_leaf = block_at 0x1000040000 18

upper_half : Block
upper_half = block_at 0x1000080000 19

-- ---- the lowest place
of_nothing : lowest_place (small []) 18 ≡ Some 0x1000000000
unfolding lowest_place multiples small
of_nothing = refl

above_a_leaf : lowest_place (small (first_leaf ∷ [])) 19 ≡ Some 0x1000080000
unfolding lowest_place multiples small first_leaf
above_a_leaf = refl

between : lowest_place (small (first_leaf ∷ upper_half ∷ [])) 18 ≡ Some 0x1000040000
unfolding lowest_place multiples small first_leaf upper_half
between = refl

full : lowest_place (small (first_leaf ∷ second_leaf ∷ upper_half ∷ [])) 18 ≡ None
unfolding lowest_place multiples small first_leaf second_leaf upper_half
full = refl

used_again : lowest_place (small (upper_half ∷ [])) 19 ≡ Some 0x1000000000
unfolding lowest_place multiples small upper_half
used_again = refl

too_large : lowest_place (small []) 21 ≡ None
unfolding lowest_place multiples small
too_large = refl

-- A larger block than the pool fits nowhere, even if the pool begins at a multiple of it.
much_too_large : lowest_place (small []) 46 ≡ None
unfolding lowest_place multiples small
much_too_large = refl

-- ---- the list
in_between :
    taken_with (first_leaf ∷ upper_half ∷ []) second_leaf
    ≡ first_leaf ∷ second_leaf ∷ upper_half ∷ []
unfolding taken_with first_leaf second_leaf upper_half
in_between = refl

given_back :
    taken_without (first_leaf ∷ second_leaf ∷ upper_half ∷ []) 0x1000040000
    ≡ first_leaf ∷ upper_half ∷ []
unfolding taken_without first_leaf second_leaf upper_half
given_back = refl

-- ---- the tree
-- Of two leaves the left one is taken, then the right one, then both in one block.
left_taken : blocks_below 1 0x1000000000 (Open 18 ∷ Taken ∷ Open 18 ∷ []) ≡ first_leaf ∷ []
unfolding blocks_below first_leaf
left_taken = refl

right_taken : blocks_below 1 0x1000000000 (Open 18 ∷ Open 18 ∷ Taken ∷ []) ≡ second_leaf ∷ []
unfolding blocks_below second_leaf
right_taken = refl

both_taken :
    blocks_below 1 0x1000000000 (Taken ∷ Open 18 ∷ Open 18 ∷ []) ≡ block_at 0x1000000000 19 ∷ []
unfolding blocks_below
both_taken = refl

-- Of four leaves the upper two are one block: the nodes of the right half follow those of the left.
upper_taken :
    blocks_below 2 0x1000000000
    (Open 19 ∷ Open 19 ∷ Open 18 ∷ Open 18 ∷ Taken ∷ Open 18 ∷ Open 18 ∷ [])
    ≡ upper_half ∷ []
unfolding blocks_below upper_half
upper_taken = refl

-- ---- refusals, and their order
order_first : pool_refusal 1 17 ≡ Some Order
unfolding pool_refusal range_refusal
order_first = refl

above_34 : pool_refusal 0 35 ≡ Some Order
unfolding pool_refusal range_refusal
above_34 = refl

unaligned_first : pool_refusal 0xffffffffffffffff 18 ≡ Some Unaligned
unfolding pool_refusal range_refusal
unaligned_first = refl

past : pool_refusal 0x1000000000000000 18 ≡ Some Past
unfolding pool_refusal range_refusal
past = refl

-- A pool may end at 2 ^ 60.
to_the_top : pool_refusal 0xffffffffffc0000 18 ≡ None
unfolding pool_refusal range_refusal
to_the_top = refl
