-- The way down to a taken block, and what giving it back makes of the tree.
use Rattle.std.proofs.Common.{◌≡◌, ℕ, zero, suc, ◌+◌, ◌-◌, ◌*◌, ◌/◌, ◌%◌, ◌^◌, ◌<◌, ◌≤◌, List, length, set, Contains, refl, sym, ap, ◌∙◌, subst, inl, inr, ◌⊎◌, arith}
use Rattle.std.proofs.lemmas.Bool.{cases_eq, cases_lt}
use Rattle.std.proofs.lemmas.Nat.{pow_pos, pow_below, shr-shr, shr_split, shr_below, mod_below}
use Rattle.std.proofs.lemmas.List.Elements.{All-contains}
use Rattle.hpt_pool.specs.declared.tree.Node.{Node}
use Rattle.hpt_pool.specs.declared.tree.Node.TheVariants.{Open}
use Rattle.hpt_pool.specs.Pool.{block_at}
use Rattle.hpt_pool.specs.Tree.{blocks_below, IsTree}
use Rattle.hpt_pool.specs.Way.{IsHalf, IsWay, AreMended}
use Rattle.hpt_pool.proofs.Powers.{pow_most}
use Rattle.hpt_pool.proofs.Halves.{LiesIn}
use Rattle.hpt_pool.proofs.TreeHalves.{double_order}
use Rattle.hpt_pool.proofs.Truth.{within}
use Rattle.hpt_pool.proofs.Parts.{half_trees}
use Rattle.hpt_pool.proofs.Subtrees.{tree_at, end_at, sizes, tree_whole, left-tree, right-tree, ChangesWithin, changes_wider, changes_one, tree_root_set, made_left, made_right}
use Rattle.hpt_pool.proofs.Ways.{Steps, inside_nodes, way_on, mended_on, mended_none, to_left, to_right, double_rows}
use Rattle.hpt_pool.proofs.Giving.{GivesBack, GivesIn, gives_in, held_left, held_right, gives_whole, gives_left, gives_right}

-- At a node on the way: the block is taken in its tree, and where it is given back there and the
-- nodes above are mended, it is in the whole tree.
pub record GivesBelow (height place given order : ℕ) (nodes : List Node)
    (lower index turns first : ℕ) :
    Type 0 where
  pub low : lower ≤ height
  pub way : IsWay (height - lower) lower index turns
  pub tree : IsTree lower (tree_at lower index nodes)
  pub here : Contains (blocks_below lower first (tree_at lower index nodes)) (block_at given order)
  pub closes :
      (now after : List Node)
      → ChangesWithin index (end_at lower index) nodes now
      → GivesBack lower first given (tree_at lower index nodes) (tree_at lower index now)
      → AreMended (height - lower) lower index turns now after
      → GivesBack height place given nodes after

-- ---- the root
root_gives :
    (height place given order : ℕ) (nodes : List Node)
    → IsTree height nodes
    → Contains (blocks_below height place nodes) (block_at given order)
    → GivesBelow height place given order nodes height 0 0 place
unfolding IsWay
root_gives height place given order nodes tree here =
    let whole = tree_whole height nodes tree.whole in
    record {
      low = omega arith;
      way =
          subst (λ n. IsWay n height 0 0) (let e : 0 ≡ height - height = omega arith in e)
          (refl, refl);
      tree = subst (λ (list : List Node). IsTree height list) (sym whole) tree;
      here =
          subst
          (λ (list : List Node).
          Contains (blocks_below height place list) (block_at given order)) (sym whole) here;
      closes = λ now after changes gives mended.
          subst (λ (list : List Node). GivesBack height place given nodes list)
          (sym (mended_none height 0 0 now after mended))
          (subst (λ (list : List Node). GivesBack height place given nodes list)
          (tree_whole height now (ap (λ n. n + 1) changes.long ∙ tree.whole))
          (subst (λ (list : List Node). GivesBack height place given list (tree_at height 0 now))
          whole gives));
    }

pub gives_from :
    (height place given order : ℕ) (nodes : List Node) (lower index turns : ℕ)
    → lower ≡ height
    → index ≡ 0
    → turns ≡ 0
    → IsTree height nodes
    → Contains (blocks_below height place nodes) (block_at given order)
    → GivesBelow height place given order nodes lower index turns place
gives_from height place given order nodes lower index turns height_is index_is turns_is tree here =
    subst (λ n. GivesBelow height place given order nodes n index turns place) (sym height_is)
    (subst (λ n. GivesBelow height place given order nodes height n turns place) (sym index_is)
    (subst (λ n. GivesBelow height place given order nodes height 0 n place) (sym turns_is)
    (root_gives height place given order nodes tree here)))

-- ---- a half
-- What is not given back as a whole is in a half.
in_half :
    (height place given order lower index turns first : ℕ) (nodes : List Node)
    → GivesBelow height place given order nodes (suc lower) index turns first
    → (18 + suc lower ≡ order → ⊥)
    → GivesIn (suc lower) lower first given order (tree_at (suc lower) index nodes)
in_half height place given order lower index turns first nodes old other =
    subst (λ n. GivesIn (suc lower) n first given order (tree_at (suc lower) index nodes))
    (let e : suc lower - 1 ≡ lower = omega arith in e)
    (gives_in (suc lower) first given order (tree_at (suc lower) index nodes) old.tree old.here
    other)

gives_left_half :
    (height place given order lower turns above above_turns first : ℕ) (nodes : List Node)
    → GivesBelow height place given order nodes (suc lower) above above_turns first
    → Steps (suc lower) lower (above + 1) turns above above_turns
    → length nodes + 1 ≡ 2 ^ (height + 1)
    → (18 + suc lower ≡ order → ⊥)
    → given < first + 2 ^ (18 + lower)
    → GivesBelow height place given order nodes lower (above + 1) turns first
gives_left_half height place given order lower turns above above_turns first nodes old step whole
    other below =
    let before = in_half height place given order lower above above_turns first nodes old other in
    let low = old.low in
    let double = double_order lower in
    let size = sizes lower in
    let positive = size.some in
    let half_size = size.half in
    let all_size = size.whole in
    let trees = half_trees (suc lower) lower (tree_at (suc lower) above nodes) refl old.tree in
    record {
      low = omega arith;
      way =
          way_on height (suc lower) lower (above + 1) turns above above_turns old.low step old.way;
      tree = subst (λ (list : List Node). IsTree lower list) (left-tree lower above nodes) trees.0;
      here =
          subst
          (λ (list : List Node).
          Contains (blocks_below lower first list) (block_at given order))
          (left-tree lower above nodes)
          (held_left (suc lower) lower first given order (tree_at (suc lower) above nodes)
          before below);
      closes = λ now after changes gives mended.
          let up = mended_on height (suc lower) lower (above + 1) turns above above_turns now after
          old.low step mended in
          old.closes (set now above (Open up.0)) after
          (changes_wider (above + 1) (end_at lower (above + 1)) above (end_at (suc lower) above)
          above nodes now (Open up.0) (omega arith) (omega arith) (omega arith) (omega arith)
          changes)
          (gives_left (suc lower) lower first given order up.0 (tree_at (suc lower) above nodes)
          (tree_at (suc lower) above (set now above (Open up.0)))
          (tree_at lower (above + 1) now) before below
          (made_left lower above up.0 nodes now
          (inside_nodes height (suc lower) above above_turns nodes whole old.low old.way)
          changes up.1)
          (subst
          (λ (list : List Node).
          GivesBack lower first given list (tree_at lower (above + 1) now))
          (sym (left-tree lower above nodes)) gives))
          up.2;
    }

gives_right_half :
    (height place given order lower turns above above_turns first : ℕ) (nodes : List Node)
    → GivesBelow height place given order nodes (suc lower) above above_turns first
    → Steps (suc lower) lower (above + 2 ^ suc lower) turns above above_turns
    → length nodes + 1 ≡ 2 ^ (height + 1)
    → (18 + suc lower ≡ order → ⊥)
    → first + 2 ^ (18 + lower) ≤ given
    → GivesBelow height place given order nodes lower (above + 2 ^ suc lower) turns
    (first + 2 ^ (18 + lower))
gives_right_half height place given order lower turns above above_turns first nodes old step whole
    other beyond =
    let before = in_half height place given order lower above above_turns first nodes old other in
    let low = old.low in
    let double = double_order lower in
    let size = sizes lower in
    let positive = size.some in
    let half_size = size.half in
    let next_size = size.next in
    let all_size = size.whole in
    let trees = half_trees (suc lower) lower (tree_at (suc lower) above nodes) refl old.tree in
    record {
      low = omega arith;
      way =
          way_on height (suc lower) lower (above + 2 ^ suc lower) turns above above_turns old.low
          step old.way;
      tree = subst (λ (list : List Node). IsTree lower list) (right-tree lower above nodes) trees.1;
      here =
          subst
          (λ (list : List Node).
          Contains (blocks_below lower (first + 2 ^ (18 + lower)) list) (block_at given order))
          (right-tree lower above nodes)
          (held_right (suc lower) lower first given order (tree_at (suc lower) above nodes)
          before beyond);
      closes = λ now after changes gives mended.
          let up = mended_on height (suc lower) lower (above + 2 ^ suc lower) turns above
          above_turns now after old.low step mended in
          old.closes (set now above (Open up.0)) after
          (changes_wider (above + 2 ^ suc lower) (end_at lower (above + 2 ^ suc lower)) above
          (end_at (suc lower) above) above nodes now (Open up.0) (omega arith) (omega arith)
          (omega arith) (omega arith) changes)
          (gives_right (suc lower) lower first (first + 2 ^ (18 + lower)) given order up.0
          (tree_at (suc lower) above nodes)
          (tree_at (suc lower) above (set now above (Open up.0)))
          (tree_at lower (above + 2 ^ suc lower) now) before refl beyond
          (made_right lower above up.0 nodes now
          (inside_nodes height (suc lower) above above_turns nodes whole old.low old.way)
          changes up.1)
          (subst
          (λ (list : List Node).
          GivesBack lower (first + 2 ^ (18 + lower)) given list
          (tree_at lower (above + 2 ^ suc lower) now))
          (sym (right-tree lower above nodes)) gives))
          up.2;
    }

-- ---- the same, as the loop goes
pub gives_down_left :
    (height place given order level lower index turns above above_turns first middle : ℕ)
    (nodes : List Node)
    → lower + 1 ≡ level
    → index ≡ above + 1
    → turns ≡ above_turns * 2
    → middle ≡ first + 2 ^ (18 + lower)
    → GivesBelow height place given order nodes level above above_turns first
    → length nodes + 1 ≡ 2 ^ (height + 1)
    → (18 + level ≡ order → ⊥)
    → given < middle
    → GivesBelow height place given order nodes lower index turns first
gives_down_left height place given order level lower index turns above above_turns first middle
    nodes level_is index_is turns_are middle_is old whole other below =
    let is : level ≡ suc lower = omega arith in
    subst (λ n. GivesBelow height place given order nodes lower n turns first) (sym index_is)
    (gives_left_half height place given order lower turns above above_turns first nodes
    (subst (λ n. GivesBelow height place given order nodes n above above_turns first) is old)
    (to_left lower turns above above_turns turns_are) whole (λ same. other (omega arith))
    (omega arith))

pub gives_down_right :
    (height place given order level lower index turns above above_turns first middle : ℕ)
    (nodes : List Node)
    → lower + 1 ≡ level
    → index ≡ above + 2 ^ level
    → turns ≡ above_turns * 2 + 1
    → middle ≡ first + 2 ^ (18 + lower)
    → GivesBelow height place given order nodes level above above_turns first
    → length nodes + 1 ≡ 2 ^ (height + 1)
    → (18 + level ≡ order → ⊥)
    → (given < middle → ⊥)
    → GivesBelow height place given order nodes lower index turns middle
gives_down_right height place given order level lower index turns above above_turns first middle
    nodes level_is index_is turns_are middle_is old whole other beyond =
    let is : level ≡ suc lower = omega arith in
    subst (λ n. GivesBelow height place given order nodes lower n turns middle)
    (sym (index_is ∙ ap (λ n. above + 2 ^ n) is))
    (subst (λ n. GivesBelow height place given order nodes lower (above + 2 ^ suc lower) turns n)
    (sym middle_is)
    (gives_right_half height place given order lower turns above above_turns first nodes
    (subst (λ n. GivesBelow height place given order nodes n above above_turns first) is old)
    (to_right lower turns above above_turns turns_are) whole (λ same. other (omega arith))
    (omega arith)))

-- ---- the way to the block
-- The turns to a half are those to the place that is given back.
gives_half :
    (height place given order lower index turns above : ℕ) (nodes : List Node)
    → GivesBelow height place given order nodes (suc lower) above (turns / 2)
    (place + turns / 2 * 2 ^ (18 + suc lower))
    → IsHalf lower index turns above
    → length nodes + 1 ≡ 2 ^ (height + 1)
    → place ≤ given
    → order ≤ 18 + lower
    → turns ≡ (given - place) / 2 ^ (18 + lower)
    → GivesBelow height place given order nodes lower index turns (place + turns * 2 ^ (18 + lower))
gives_half height place given order lower index turns above nodes up half whole from large turns_are
    =
    at (cases_eq (turns % 2) 0)
    (double_rows (turns / 2) turns (2 ^ (18 + lower)) (2 ^ (18 + suc lower)) (double_order lower))
    (ap (λ n. n * 2 ^ (18 + lower)) turns_are)
    (shr_split (given - place) (18 + lower))
    (mod_below (given - place) (2 ^ (18 + lower)) (pow_pos (18 + lower))) where
      at :
          (turns % 2 ≡ 0) ⊎ (turns % 2 ≡ 0 → ⊥)
          →
          (turns ≡ turns / 2 + turns / 2
          → turns / 2 * 2 ^ (18 + suc lower) ≡ turns * 2 ^ (18 + lower))
          ×
          (turns ≡ turns / 2 + turns / 2 + 1
          → turns / 2 * 2 ^ (18 + suc lower) + 2 ^ (18 + lower) ≡ turns * 2 ^ (18 + lower))
          → turns * 2 ^ (18 + lower) ≡ (given - place) / 2 ^ (18 + lower) * 2 ^ (18 + lower)
          → (given - place) / 2 ^ (18 + lower) * 2 ^ (18 + lower)
          + (given - place) % 2 ^ (18 + lower)
          ≡ given - place
          → (given - place) % 2 ^ (18 + lower) < 2 ^ (18 + lower)
          → GivesBelow height place given order nodes lower index turns
          (place + turns * 2 ^ (18 + lower))
      at (inl even) rows same parts rest =
          let row = rows.0 (omega arith) in
          subst (λ n. GivesBelow height place given order nodes lower index turns n)
          (ap (λ n. place + n) row)
          (gives_down_left height place given order (suc lower) lower index turns above (turns / 2)
          (place + turns / 2 * 2 ^ (18 + suc lower))
          (place + turns / 2 * 2 ^ (18 + suc lower) + 2 ^ (18 + lower)) nodes (omega arith)
          (half.left even) (omega arith) refl up whole (λ same_order. omega arith)
          (omega arith))
      at (inr odd) rows same parts rest =
          let row = rows.1 (omega arith) in
          subst (λ n. GivesBelow height place given order nodes lower index turns n)
          (let e : place + turns / 2 * 2 ^ (18 + suc lower) + 2 ^ (18 + lower) ≡ place + turns *
          2 ^ (18 + lower) = omega arith in
          e)
          (gives_down_right height place given order (suc lower) lower index turns above (turns / 2)
          (place + turns / 2 * 2 ^ (18 + suc lower))
          (place + turns / 2 * 2 ^ (18 + suc lower) + 2 ^ (18 + lower)) nodes (omega arith)
          (half.right (omega arith)) (omega arith) refl up whole (λ same_order. omega arith)
          (λ below. omega arith))

gives_on_way :
    (height place given order : ℕ) (nodes : List Node) (count lower index turns : ℕ)
    → IsTree height nodes
    → Contains (blocks_below height place nodes) (block_at given order)
    → place ≤ given
    → order ≤ 18 + lower
    → count + lower ≡ height
    → turns ≡ (given - place) / 2 ^ (18 + lower)
    → IsWay count lower index turns
    → GivesBelow height place given order nodes lower index turns (place + turns * 2 ^ (18 + lower))
unfolding IsWay
gives_on_way height place given order nodes zero lower index turns tree here from large sum
    turns_are way =
    let none : turns * 2 ^ (18 + lower) ≡ 0 * 2 ^ (18 + lower) = ap (λ n. n * 2 ^ (18 + lower))
    way.1 in
    subst (λ n. GivesBelow height place given order nodes lower index turns n)
    (let e : place ≡ place + turns * 2 ^ (18 + lower) = omega arith in e)
    (gives_from height place given order nodes lower index turns (omega arith) way.0 way.1 tree
    here)
gives_on_way height place given order nodes (suc count) lower index turns tree here from large sum
    turns_are way =
    gives_half height place given order lower index turns way.0 nodes
    (gives_on_way height place given order nodes count (suc lower) way.0 (turns / 2) tree here from
    (omega arith) (omega arith)
    (ap (λ n. n / 2) turns_are
    ∙ shr-shr (given - place) (18 + lower) 1
    ∙ ap (λ n. (given - place) / 2 ^ n) (omega arith))
    way.2)
    way.1 tree.whole from large turns_are

-- Where a taken block lies in the tree's.
pub record IsHeld (height place given order : ℕ) : Type 0 where
  pub from : place ≤ given
  pub most : order ≤ 18 + height
  pub turns_below : (given - place) / 2 ^ order < 2 ^ (18 + height - order)

pub is_held :
    (height place given order : ℕ) (nodes : List Node)
    → Contains (blocks_below height place nodes) (block_at given order)
    → IsHeld height place given order
is_held height place given order nodes here =
    let lies = All-contains (LiesIn place (place + 2 ^ (18 + height))) _ (block_at given order)
    (within height place nodes) here in
    at (cases_lt (18 + height) order) lies.from_low lies.to_high (pow_pos order) where
      at :
          (18 + height < order) ⊎ (order ≤ 18 + height)
          → place ≤ given
          → given + 2 ^ order ≤ place + 2 ^ (18 + height)
          → 0 < 2 ^ order
          → IsHeld height place given order
      at (inl large) from to some =
          let more = pow_below (18 + height) order large in absurd (omega arith)
      at (inr small) from to some =
          let sum : 2 ^ (18 + height - order + order) ≡ 2 ^ (18 + height) = ap (λ n. 2 ^ n)
          (let e : 18 + height - order + order ≡ 18 + height = omega arith in e) in
          record {
            from = from;
            most = small;
            turns_below = shr_below (given - place) (18 + height - order) order (omega arith);
          }

-- The way to it, as the call counts it.
pub gives_at :
    (height place given order lower index turns : ℕ) (nodes : List Node)
    → IsTree height nodes
    → 18 ≤ order
    → Contains (blocks_below height place nodes) (block_at given order)
    → lower ≡ height - (18 + height - order)
    → turns ≡ (given - place) / 2 ^ order
    → IsWay (18 + height - order) (height - (18 + height - order)) index
    ((given - place) / 2 ^ order)
    → GivesBelow height place given order nodes lower index turns (place + turns * 2 ^ (18 + lower))
gives_at height place given order lower index turns nodes tree least here lower_is turns_are way =
    let held = is_held height place given order nodes here in
    let small = held.most in
    gives_on_way height place given order nodes (18 + height - order) lower index turns tree here
    held.from (omega arith) (omega arith)
    (turns_are ∙ ap (λ n. (given - place) / 2 ^ n) (let e : order ≡ 18 + lower = omega arith in e))
    (subst (λ n. IsWay (18 + height - order) n index turns) (sym lower_is)
    (subst (λ n. IsWay (18 + height - order) (height - (18 + height - order)) index n)
    (sym turns_are) way))

pub gives_stands :
    (height place given order lower index turns : ℕ) (nodes : List Node)
    → IsTree height nodes
    → height ≤ 16
    → 18 ≤ order
    → Contains (blocks_below height place nodes) (block_at given order)
    → lower ≡ height - (18 + height - order)
    → turns ≡ (given - place) / 2 ^ order
    → IsWay (18 + height - order) (height - (18 + height - order)) index
    ((given - place) / 2 ^ order)
    → (index < length nodes) × (length nodes < 2 ^ 32)
gives_stands height place given order lower index turns nodes tree most least here lower_is
    turns_are way =
    let at = gives_at height place given order lower index turns nodes tree least here lower_is
    turns_are way in
    let whole = tree.whole in
    let inside = inside_nodes height lower index turns nodes tree.whole at.low at.way in
    let size = sizes lower in
    let some = size.some in
    let double = size.half in
    let large = pow_most (height + 1) 17 (omega arith) in
    (omega arith, omega arith)

-- ---- the block is reached
pub gives_here :
    (height place given order lower index turns first : ℕ) (nodes after : List Node)
    → GivesBelow height place given order nodes lower index turns first
    → 18 + lower ≡ order
    → AreMended (height - lower) lower index turns (set nodes index (Open order)) after
    → GivesBack height place given nodes after
gives_here height place given order lower index turns first nodes after old is mended =
    let size = sizes lower in
    let positive = size.some in
    let half_size = size.half in
    old.closes (set nodes index (Open order)) after
    (changes_one index (end_at lower index) index nodes (Open order) (omega arith)
    (omega arith))
    (subst (λ (list : List Node). GivesBack lower first given (tree_at lower index nodes) list)
    (sym (tree_root_set lower index nodes (Open order)))
    (gives_whole lower first given order (tree_at lower index nodes) old.tree old.here is))
    mended
