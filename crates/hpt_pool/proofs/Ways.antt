-- What the way to a node says of the nodes on it.
use Rattle.std.proofs.Common.{◌≡◌, ℕ, zero, suc, ◌+◌, ◌-◌, ◌*◌, ◌/◌, ◌%◌, ◌^◌, ◌<◌, ◌≤◌, List, length, set, refl, sym, ap, ◌∙◌, subst, inl, inr, ◌⊎◌, arith}
use Rattle.std.proofs.lemmas.Bool.{cases_eq}
use Rattle.std.proofs.lemmas.Nat.{pow_pos, pow_below, ones-le, ones_cat}
use lib.Count.{ones}
use Rattle.hpt_pool.specs.declared.tree.Node.{Node}
use Rattle.hpt_pool.specs.declared.tree.Node.TheVariants.{Open}
use Rattle.hpt_pool.specs.Tree.{largest_of, JoinsHalves}
use Rattle.hpt_pool.specs.Way.{node_at, IsHalf, IsWay, JoinsAt, AreMended}
use Rattle.hpt_pool.proofs.Powers.{pow_most}
use Rattle.hpt_pool.proofs.TreeHalves.{joins_same}
use Rattle.hpt_pool.proofs.Subtrees.{end_at, HasSizes, sizes}

-- ---- where the way leads
-- A half ends no later than the tree of which it is one.
half_inside :
    (height index turns above : ℕ)
    → IsHalf height index turns above
    → end_at height index ≤ end_at (suc height) above
half_inside height index turns above half = at (cases_eq (turns % 2) 0) (sizes height) where
  at :
      (turns % 2 ≡ 0) ⊎ (turns % 2 ≡ 0 → ⊥)
      → HasSizes height
      → end_at height index ≤ end_at (suc height) above
  at (inl even) size =
      let left = half.left even in
      let some = size.some in
      let next = size.next in
      let whole = size.whole in
      let double = size.half in
      omega arith
  at (inr odd) size =
      let right = half.right (omega arith) in
      let next = size.next in
      let whole = size.whole in
      omega arith

-- By so many turns, to a node that lies in a tree that is higher by as much.
pub record LiesOnWay (count height index turns : ℕ) : Type 0 where
  pub inside : end_at height index ≤ end_at (count + height) 0
  pub turns_below : turns < 2 ^ count

on_way :
    (count height index turns : ℕ)
    → IsWay count height index turns
    → LiesOnWay count height index turns
unfolding IsWay
on_way zero height index turns way =
    let same : 2 ^ (zero + height + 1) ≡ 2 ^ (height + 1) = ap (λ n. 2 ^ (n + 1))
    (let e : zero + height ≡ height = omega arith in e) in
    let first = way.0 in
    let none = way.1 in
    record { inside = omega arith; turns_below = omega arith }
on_way (suc count) height index turns way =
    let up = on_way count (suc height) way.0 (turns / 2) way.2 in
    let inside = up.inside in
    let below = up.turns_below in
    let within = half_inside height index turns way.0 way.1 in
    let size = sizes count in
    let double = size.half in
    let next = size.next in
    let same : 2 ^ (suc count + height + 1) ≡ 2 ^ (count + suc height + 1) = ap (λ n. 2 ^ (n + 1))
    (let e : suc count + height ≡ count + suc height = omega arith in e) in
    record { inside = omega arith; turns_below = omega arith }

pub way_inside :
    (height lower index turns : ℕ)
    → lower ≤ height
    → IsWay (height - lower) lower index turns
    → (end_at lower index + 1 ≤ 2 ^ (height + 1)) × (turns < 2 ^ (height - lower))
way_inside height lower index turns low way =
    let lies = on_way (height - lower) lower index turns way in
    let inside = lies.inside in
    let some = pow_pos (height + 1) in
    let same : 2 ^ (height - lower + lower + 1) ≡ 2 ^ (height + 1) = ap (λ n. 2 ^ (n + 1))
    (let e : height - lower + lower ≡ height = omega arith in e) in
    (omega arith, lies.turns_below)

pub inside_nodes :
    (height lower index turns : ℕ) (nodes : List Node)
    → length nodes + 1 ≡ 2 ^ (height + 1)
    → lower ≤ height
    → IsWay (height - lower) lower index turns
    → end_at lower index ≤ length nodes
inside_nodes height lower index turns nodes whole low way =
    let lies = way_inside height lower index turns low way in
    let inside = lies.0 in
    omega arith

-- ---- a step of the way
-- The node of which another one is a half, from which the way to it goes on.
pub record Steps (level lower index turns : ℕ) (above above_turns : ℕ) : Type 0 where
  pub is : level ≡ suc lower
  pub half : IsHalf lower index turns above
  pub turns_are : turns / 2 ≡ above_turns

pub same_above :
    (lower index turns above other : ℕ)
    → IsHalf lower index turns above
    → IsHalf lower index turns other
    → above ≡ other
same_above lower index turns above other one two = at (cases_eq (turns % 2) 0) where
  at : (turns % 2 ≡ 0) ⊎ (turns % 2 ≡ 0 → ⊥) → above ≡ other
  at (inl even) = let a = one.left even in let b = two.left even in omega arith
  at (inr odd) = let a = one.right (omega arith) in let b = two.right (omega arith) in omega arith

pub way_on :
    (height level lower index turns above above_turns : ℕ)
    → level ≤ height
    → Steps level lower index turns above above_turns
    → IsWay (height - level) level above above_turns
    → IsWay (height - lower) lower index turns
unfolding IsWay
way_on height level lower index turns above above_turns low step way =
    let is = step.is in
    let count : suc (height - level) ≡ height - lower = omega arith in
    subst (λ n. IsWay n lower index turns) count (
      above,
      step.half,
      subst (λ n. IsWay (height - level) n above (turns / 2)) is
          (subst (λ n. IsWay (height - level) level above n) (sym step.turns_are) way),
    )

-- The nodes above a half are the node of which it is one, and those above that.
pub mended_on :
    (height level lower index turns above above_turns : ℕ) (nodes after : List Node)
    → level ≤ height
    → Steps level lower index turns above above_turns
    → AreMended (height - lower) lower index turns nodes after
    → (largest : ℕ)
    × JoinsAt (suc lower) above nodes largest
    × AreMended (height - level) level above above_turns (set nodes above (Open largest)) after
unfolding AreMended
mended_on height level lower index turns above above_turns nodes after low step mended =
    let is = step.is in
    at
    (subst (λ n. AreMended n lower index turns nodes after)
    (let e : height - lower ≡ suc (height - level) = omega arith in e) mended) where
      at :
          AreMended (suc (height - level)) lower index turns nodes after
          → (largest : ℕ)
          × JoinsAt (suc lower) above nodes largest
          × AreMended (height - level) level above above_turns (set nodes above (Open largest))
          after
      at (up, largest, half, joins, rest) =
          let same : up ≡ above = same_above lower index turns up above half step.half in (
            largest,
            subst (λ n. JoinsAt (suc lower) n nodes largest) same joins,
            subst
                (λ n.
                AreMended (height - level) level n above_turns (set nodes n (Open largest)) after)
                same
                (subst
                (λ n.
                AreMended (height - level) n up above_turns (set nodes up (Open largest))
                after) (sym step.is)
                (subst
                (λ n.
                AreMended (height - level) (suc lower) up n (set nodes up (Open largest))
                after) step.turns_are rest)),
          )

-- ---- a step up
-- The node above, as the loop that mends finds it.
pub record GoesUp (height lower index turns up_height up up_turns : ℕ) : Type 0 where
  pub low : lower < height
  pub next : up_height ≡ lower + 1
  pub half : IsHalf lower index turns up
  pub turns_are : up_turns ≡ turns / 2

-- A node below the root is a half.
pub is_half :
    (height lower index turns : ℕ)
    → lower < height
    → IsWay (height - lower) lower index turns
    → (above : ℕ) × IsHalf lower index turns above
unfolding IsWay
is_half height lower index turns low way =
    at
    (subst (λ n. IsWay n lower index turns)
    (let e : height - lower ≡ suc (height - lower - 1) = omega arith in e) way) where
      at :
          IsWay (suc (height - lower - 1)) lower index turns
          → (above : ℕ) × IsHalf lower index turns above
      at (above, half, rest) = (above, half)

pub way_up :
    (height lower index turns up_height up up_turns : ℕ)
    → GoesUp height lower index turns up_height up up_turns
    → IsWay (height - lower) lower index turns
    → IsWay (height - up_height) up_height up up_turns
unfolding IsWay
way_up height lower index turns up_height up up_turns goes way =
    let low = goes.low in
    let next = goes.next in
    at
    (subst (λ n. IsWay n lower index turns)
    (let e : height - lower ≡ suc (height - up_height) = omega arith in e) way) where
      at :
          IsWay (suc (height - up_height)) lower index turns
          → IsWay (height - up_height) up_height up up_turns
      at (above, half, rest) =
          subst (λ n. IsWay (height - up_height) n up up_turns)
          (let e : suc lower ≡ up_height = let next = goes.next in omega arith in e)
          (subst (λ n. IsWay (height - up_height) (suc lower) n up_turns)
          (same_above lower index turns above up half goes.half)
          (subst (λ n. IsWay (height - up_height) (suc lower) above n) (sym goes.turns_are) rest))

-- The node above and its halves are in the list.
pub record StandsIn (height index : ℕ) (nodes : List Node) : Type 0 where
  pub itself : index < length nodes
  pub left : index + 1 < length nodes
  pub right : index + 2 ^ height < length nodes
  pub small : length nodes < 2 ^ 32

pub stands_in :
    (height lower index turns up_height up up_turns : ℕ) (old nodes : List Node)
    → height ≤ 16
    → length nodes ≡ length old
    → length old + 1 ≡ 2 ^ (height + 1)
    → IsWay (height - lower) lower index turns
    → GoesUp height lower index turns up_height up up_turns
    → StandsIn up_height up nodes
stands_in height lower index turns up_height up up_turns old nodes most same whole way goes =
    let low = goes.low in
    let next = goes.next in
    let lies = way_inside height up_height up up_turns (omega arith)
    (way_up height lower index turns up_height up up_turns goes way) in
    let inside = lies.0 in
    let size = sizes up_height in
    let some = size.some in
    let double = size.half in
    let leaves = pow_below 0 up_height (omega arith) in
    let large = pow_most (height + 1) 17 (omega arith) in
    record { itself = omega arith; left = omega arith; right = omega arith; small = omega arith }

pub other_stands :
    (turns height above other : ℕ) (nodes : List Node)
    → StandsIn height above nodes
    → (turns % 2 ≡ 0 → other ≡ above + 2 ^ height)
    → (turns % 2 ≡ 1 → other ≡ above + 1)
    → other < length nodes
other_stands turns height above other nodes stands to_right to_left =
    at (cases_eq (turns % 2) 0) where
      at : (turns % 2 ≡ 0) ⊎ (turns % 2 ≡ 0 → ⊥) → other < length nodes
      at (inl even) = let is = to_right even in let right = stands.right in omega arith
      at (inr odd) = let is = to_left (omega arith) in let left = stands.left in omega arith

pub mended_up :
    (height lower index turns up_height up up_turns largest : ℕ) (nodes after : List Node)
    → GoesUp height lower index turns up_height up up_turns
    → JoinsAt (suc lower) up nodes largest
    → AreMended (height - up_height) up_height up up_turns (set nodes up (Open largest)) after
    → AreMended (height - lower) lower index turns nodes after
unfolding AreMended
mended_up height lower index turns up_height up up_turns largest nodes after goes joins rest =
    let low = goes.low in
    let next = goes.next in
    let is : up_height ≡ suc lower = omega arith in
    subst (λ n. AreMended n lower index turns nodes after)
    (let e : suc (height - up_height) ≡ height - lower = omega arith in e) (
      up,
      largest,
      goes.half,
      joins,
      subst
          (λ n. AreMended (height - up_height) n up (turns / 2) (set nodes up (Open largest)) after)
          is
          (subst
          (λ n.
          AreMended (height - up_height) up_height up n (set nodes up (Open largest)) after)
          goes.turns_are rest),
    )

-- What the two halves say, of which one was made to say it.
joins_swap :
    (order left right largest : ℕ)
    → JoinsHalves order left right largest
    → JoinsHalves order right left largest
joins_swap order left right largest joins = record {
  whole = λ all_right all_left. joins.whole all_left all_right;
  left_part = λ part. let is = joins.right_part part in omega arith;
  right_part = λ part. let is = joins.left_part part in omega arith;
}

pub joins_at :
    (lower index turns above other said seen largest : ℕ) (nodes : List Node)
    → IsHalf lower index turns above
    → (turns % 2 ≡ 0 → other ≡ above + 2 ^ (lower + 1))
    → (turns % 2 ≡ 1 → other ≡ above + 1)
    → said ≡ largest_of (node_at nodes index)
    → seen ≡ largest_of (node_at nodes other)
    → JoinsHalves (18 + lower) said seen largest
    → JoinsAt (suc lower) above nodes largest
joins_at lower index turns above other said seen largest nodes half to_right to_left said_is seen_is
    joins =
    at (cases_eq (turns % 2) 0) (sizes lower) where
      named :
          (left right : ℕ)
          → index ≡ left
          → other ≡ right
          → JoinsHalves (17 + suc lower) (largest_of (node_at nodes left))
          (largest_of (node_at nodes right)) largest
      named left right index_is other_is =
          joins_same (18 + lower) said seen largest (17 + suc lower)
          (largest_of (node_at nodes left)) (largest_of (node_at nodes right)) largest
          (omega arith)
          (said_is ∙ ap (λ n. largest_of (node_at nodes n)) index_is)
          (seen_is ∙ ap (λ n. largest_of (node_at nodes n)) other_is) refl joins

      at :
          (turns % 2 ≡ 0) ⊎ (turns % 2 ≡ 0 → ⊥)
          → HasSizes lower
          → JoinsAt (suc lower) above nodes largest
      at (inl even) size =
          let next = size.next in
          let right = to_right even in
          named (above + 1) (above + 2 ^ suc lower) (half.left even) (omega arith)
      at (inr odd) size =
          let next = size.next in
          let right = half.right (omega arith) in
          joins_swap (17 + suc lower) (largest_of (node_at nodes (above + 2 ^ suc lower)))
          (largest_of (node_at nodes (above + 1))) largest
          (named (above + 2 ^ suc lower) (above + 1) right (to_left (omega arith)))

pub mended_none :
    (height index turns : ℕ) (nodes after : List Node)
    → AreMended (height - height) height index turns nodes after
    → after ≡ nodes
unfolding AreMended
mended_none height index turns nodes after mended =
    subst (λ n. AreMended n height index turns nodes after)
    (let e : height - height ≡ zero = omega arith in e) mended

-- ---- down from a node
-- It has halves, its number is small, and its left half is in the list.
pub record HasHalvesIn (lower index turns : ℕ) (nodes : List Node) : Type 0 where
  pub least : 0 < lower
  pub index_small : index < 2 ^ 32
  pub turns_small : turns < 2 ^ 32
  pub left : index + 1 < length nodes

pub has_halves :
    (height lower index turns : ℕ) (nodes : List Node)
    → height ≤ 16
    → length nodes + 1 ≡ 2 ^ (height + 1)
    → lower ≤ height
    → IsWay (height - lower) lower index turns
    → 0 < lower
    → HasHalvesIn lower index turns nodes
has_halves height lower index turns nodes most whole low way least =
    let lies = way_inside height lower index turns low way in
    let inside = lies.0 in
    let below = lies.1 in
    let size = sizes lower in
    let double = size.half in
    let leaves = pow_below 0 lower least in
    let large = pow_most (height + 1) 17 (omega arith) in
    let many = pow_most (height - lower) 16 (omega arith) in
    record {
      least = least;
      index_small = omega arith;
      turns_small = omega arith;
      left = omega arith;
    }

-- ---- the halves of a node on the way
pub to_left :
    (lower turns above above_turns : ℕ)
    → turns ≡ above_turns * 2
    → Steps (suc lower) lower (above + 1) turns above above_turns
to_left lower turns above above_turns is = record {
  is = refl;
  half = record { left = λ even. refl; right = λ odd. absurd (omega arith) };
  turns_are = omega arith;
}

pub to_right :
    (lower turns above above_turns : ℕ)
    → turns ≡ above_turns * 2 + 1
    → Steps (suc lower) lower (above + 2 ^ suc lower) turns above above_turns
to_right lower turns above above_turns is = record {
  is = refl;
  half = record { left = λ even. absurd (omega arith); right = λ odd. refl };
  turns_are = omega arith;
}

-- ---- where so many turns lead
-- Twice a number of leaves, at a node and at the one above it.
pub double_rows :
    (half turns size next : ℕ)
    → next ≡ size + size
    → (turns ≡ half + half → half * next ≡ turns * size)
    × (turns ≡ half + half + 1 → half * next + size ≡ turns * size)
double_rows half turns size next next_is = (even, odd) where
  whole : half * next ≡ (half + half) * size
  whole =
      let parts : half * (size + size) ≡ half * size + half * size = grind arith in
      let sums : (half + half) * size ≡ half * size + half * size = grind arith in
      ap (λ n. half * n) next_is ∙ parts ∙ sym sums

  even : turns ≡ half + half → half * next ≡ turns * size
  even is = whole ∙ ap (λ n. n * size) (sym is)

  odd : turns ≡ half + half + 1 → half * next + size ≡ turns * size
  odd is =
      let one_more : (half + half + 1) * size ≡ (half + half) * size + size = grind arith in
      ap (λ n. n + size) whole ∙ sym one_more ∙ ap (λ n. n * size) (sym is)

no_ones : ones 0 ≡ 0
unfolding ones
no_ones = refl

one_one : ones 1 ≡ 1
unfolding ones
one_one = refl

-- The ones of a number are those of its half, and the last one.
ones_half : (turns : ℕ) → ones turns ≡ ones (turns / 2) + ones (turns % 2)
ones_half turns =
    ap ones (let e : turns ≡ turns / 2 * 2 + turns % 2 = omega arith in e)
    ∙ ones_cat 1 (turns / 2) (turns % 2) (omega arith)

pub way_by_turns :
    (count height index turns : ℕ)
    → turns < 2 ^ count
    → index + ones turns ≡ turns * 2 ^ (height + 1) + count
    → IsWay count height index turns
unfolding IsWay
way_by_turns zero height index turns below is =
    let none : turns ≡ 0 = omega arith in
    let digits : ones turns ≡ 0 = ap ones none ∙ no_ones in
    let no_rows : turns * 2 ^ (height + 1) ≡ 0 * 2 ^ (height + 1) = ap (λ n. n * 2 ^ (height + 1))
    none in
    (omega arith, none)
way_by_turns (suc count) height index turns below is = (
  turns / 2 * 2 ^ (suc height + 1) + count - ones (turns / 2),
  record { left = left; right = right },
  way_by_turns count (suc height) (turns / 2 * 2 ^ (suc height + 1) + count - ones (turns / 2))
      (turns / 2) fewer (let few = ones_few in omega arith),
) where
  fewer : turns / 2 < 2 ^ count
  fewer = let size = sizes count in let double = size.half in let next = size.next in omega arith

  ones_few : ones (turns / 2) ≤ count
  ones_few = ones-le count (turns / 2) fewer

  rows :
      (turns ≡ turns / 2 + turns / 2 → turns / 2 * 2 ^ (suc height + 1) ≡ turns * 2 ^ (height + 1))
      ×
      (turns ≡ turns / 2 + turns / 2 + 1
      → turns / 2 * 2 ^ (suc height + 1) + 2 ^ (height + 1) ≡ turns * 2 ^ (height + 1))
  rows =
      double_rows (turns / 2) turns (2 ^ (height + 1)) (2 ^ (suc height + 1)) (sizes height).whole

  left : turns % 2 ≡ 0 → index ≡ turns / 2 * 2 ^ (suc height + 1) + count - ones (turns / 2) + 1
  left even =
      let few = ones_few in
      let digits = ones_half turns in
      let last : ones (turns % 2) ≡ 0 = ap ones even ∙ no_ones in
      let row = rows.0 (omega arith) in
      omega arith

  right :
      turns % 2 ≡ 1
      → index ≡ turns / 2 * 2 ^ (suc height + 1) + count - ones (turns / 2) + 2 ^ suc height
  right odd =
      let few = ones_few in
      let digits = ones_half turns in
      let last : ones (turns % 2) ≡ 1 = ap ones odd ∙ one_one in
      let next = (sizes height).next in
      let row = rows.1 (omega arith) in
      omega arith
