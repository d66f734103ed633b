-- The pool of a tree: the lowest place, and the pool after a block is taken or given back.
use Rattle.std.proofs.Common.{◌≡◌, ℕ, ◌+◌, ◌-◌, ◌*◌, ◌^◌, ◌<◌, ◌≤◌, true, false, not, List, [], get_or, Some, sym, ap, ◌∙◌, subst, inl, inr, ◌⊎◌, arith}
use Rattle.std.proofs.lemmas.Bool.{cases_lt}
use Rattle.std.proofs.lemmas.List.{get_or_default}
use Rattle.hpt_pool.specs.declared.tree.Node.{Node}
use Rattle.hpt_pool.specs.declared.tree.Node.TheVariants.{Taken}
use Rattle.hpt_pool.specs.Pool.{Block, PoolState, block_at, fits, lowest_place, FitsNowhere, IsLowest, taken_with, taken_without, with_block, without_block, no_blocks, IsSound}
use Rattle.pool_range.specs.Ranges.{IsPoolRange}
use Rattle.hpt_pool.specs.Tree.{root_of, largest_of, blocks_below, tree_pool, IsTree, IsTreePool}
use Rattle.hpt_pool.specs.Free.{is_met, IsFirstFree}
use Rattle.hpt_pool.proofs.Placing.{fits_in, sound_with, sound_without}
use Rattle.hpt_pool.proofs.Lowest.{multiple_placed, fits_is, too_large, lowest_some, is_lowest, fits_nowhere}
use Rattle.hpt_pool.proofs.Parts.{some_nodes}
use Rattle.hpt_pool.proofs.Truth.{most, free_whole, met}

-- ---- the lowest place
-- Whether a block fits at a step is whether it overlaps none of the tree's.
fits_at :
    (pool_state : PoolState) (order k : ℕ)
    → IsPoolRange pool_state.base pool_state.order
    → 18 ≤ order
    → order ≤ pool_state.order
    → k < 2 ^ (pool_state.order - order)
    → fits pool_state order (pool_state.base + k * 2 ^ order)
    ≡ not (is_met pool_state.taken order (pool_state.base + k * 2 ^ order))
fits_at pool_state order k pool least small below =
    fits_is pool_state order (pool_state.base + k * 2 ^ order)
    (multiple_placed pool_state order k pool least small below)

-- A search of the tree makes as many steps as the pool has multiples of the order.
same_steps :
    (order wanted : ℕ) → 18 ≤ order → 2 ^ (18 + (order - 18) - wanted) ≡ 2 ^ (order - wanted)
same_steps order wanted least = ap (λ n. 2 ^ (n - wanted)) (omega arith)

pub none_fits :
    (base order wanted : ℕ) (nodes : List Node)
    → IsTreePool base order nodes
    → largest_of (root_of nodes) < wanted
    → 18 ≤ wanted
    → FitsNowhere (tree_pool base order nodes) wanted
none_fits base order wanted nodes here less least = at (cases_lt order wanted) where
  at : (order < wanted) ⊎ (wanted ≤ order) → FitsNowhere (tree_pool base order nodes) wanted
  at (inl large) = too_large (tree_pool base order nodes) wanted large
  at (inr small) =
      let least_order = here.sound.pool.at_least in
      let same = same_steps order wanted least_order in
      fits_nowhere (tree_pool base order nodes) wanted here.sound.pool small (λ k below.
      fits_at (tree_pool base order nodes) wanted k here.sound.pool least small below
      ∙ ap not
      (met (order - 18) base wanted nodes here.tree.truthful less least (omega arith) k
      (omega arith)))

-- The search finds this place, and it is the lowest at which a block of this order fits.
pub record FindsLowest (pool_state : PoolState) (order place : ℕ) : Type 0 where
  pub found : lowest_place pool_state order ≡ Some place
  pub lowest : IsLowest pool_state order place

pub first_fits :
    (base order wanted answer : ℕ) (nodes : List Node)
    → IsTreePool base order nodes
    → 18 ≤ wanted
    → wanted ≤ largest_of (root_of nodes)
    → IsFirstFree (blocks_below (order - 18) base nodes) (order - 18) base wanted answer
    → FindsLowest (tree_pool base order nodes) wanted answer
first_fits base order wanted answer nodes here least some first =
    subst (λ (place : ℕ). FindsLowest pool_state wanted place) (sym first.is)
    (record {
      found = lowest_some pool_state wanted first.steps below lower fit;
      lowest = is_lowest pool_state wanted first.steps pool small lower fit;
    }) where
      pool_state : PoolState
      pool_state = tree_pool base order nodes

      pool : IsPoolRange base order
      pool = here.sound.pool

      small : wanted ≤ order
      small =
          let least_order = pool.at_least in
          let limit = most (order - 18) nodes here.tree.truthful in
          omega arith

      below : first.steps < 2 ^ (order - wanted)
      below =
          let same = same_steps order wanted pool.at_least in let steps = first.below in omega arith

      lower : (k : ℕ) → k < first.steps → fits pool_state wanted (base + k * 2 ^ wanted) ≡ false
      lower k before =
          let under = below in
          fits_at pool_state wanted k pool least small (omega arith) ∙ ap not (first.lower k before)

      fit : fits pool_state wanted (base + first.steps * 2 ^ wanted) ≡ true
      fit =
          fits_at pool_state wanted first.steps pool least small below
          ∙ ap not (ap (λ n. is_met pool_state.taken wanted n) (sym first.is) ∙ first.free)

-- ---- the pool after a call
-- What is seen of the tree before is `nodes`.
pub record IsPoolAfter (base order : ℕ) (after : List Node) (pool_state : PoolState) : Type 0 where
  pub now : tree_pool base order after ≡ pool_state
  pub tree : IsTreePool base order after

after_blocks :
    (base order : ℕ) (after : List Node) (taken : List Block)
    → blocks_below (order - 18) base after ≡ taken
    → IsSound (record { base = base; order = order; taken = taken })
    → IsTree (order - 18) after
    → IsPoolAfter base order after (record { base = base; order = order; taken = taken })
after_blocks base order after taken is sound tree =
    let Made : List Block → PoolState = λ blocks. record {
      base = base;
      order = order;
      taken = blocks;
    } in
    record {
      now = ap Made is;
      tree =
          record {
            sound = subst (λ (blocks : List Block). IsSound (Made blocks)) (sym is) sound;
            tree = tree;
          };
    }

pub pool_with :
    (base order wanted answer : ℕ) (nodes after : List Node)
    → IsTreePool base order nodes
    → 18 ≤ wanted
    → IsLowest (tree_pool base order nodes) wanted answer
    → blocks_below (order - 18) base after
    ≡ taken_with (blocks_below (order - 18) base nodes) (block_at answer wanted)
    → IsTree (order - 18) after
    → IsPoolAfter base order after
    (with_block (tree_pool base order nodes) (block_at answer wanted))
pool_with base order wanted answer nodes after here least lowest is tree =
    after_blocks base order after
    (taken_with (blocks_below (order - 18) base nodes) (block_at answer wanted)) is
    (sound_with (tree_pool base order nodes) (block_at answer wanted) here.sound
    (fits_in (tree_pool base order nodes) wanted answer least lowest.fitting)) tree

pub pool_without :
    (base order given : ℕ) (nodes after : List Node)
    → IsTreePool base order nodes
    → blocks_below (order - 18) base after
    ≡ taken_without (blocks_below (order - 18) base nodes) given
    → IsTree (order - 18) after
    → IsPoolAfter base order after (without_block (tree_pool base order nodes) given)
pool_without base order given nodes after here is tree =
    after_blocks base order after (taken_without (blocks_below (order - 18) base nodes) given) is
    (sound_without (tree_pool base order nodes) given here.sound) tree

pub new_pool :
    (base order : ℕ) (nodes : List Node)
    → IsPoolRange base order
    → IsTree (order - 18) nodes
    → largest_of (root_of nodes) ≡ 18 + (order - 18)
    → IsPoolAfter base order nodes (no_blocks base order)
new_pool base order nodes pool tree free =
    after_blocks base order nodes [] (free_whole (order - 18) base nodes tree.truthful free)
    (record {
      pool = pool;
      blocks =
          record {
            placed = λ k d inside. absurd (omega arith);
            rising = λ i j d before inside. absurd (omega arith);
            apart = λ i j d before inside. absurd (omega arith);
          };
    }) tree

-- ---- what the root says
pub seen_root :
    (base order : ℕ) (nodes : List Node) (root : Node) (largest : ℕ)
    → IsTreePool base order nodes
    → root ≡ get_or nodes 0 root
    → largest ≡ largest_of root
    → largest ≡ largest_of (root_of nodes)
seen_root base order nodes root largest here root_is is =
    is
    ∙ ap largest_of
    (root_is
    ∙ get_or_default nodes 0 root Taken (some_nodes (order - 18) nodes here.tree.whole))
