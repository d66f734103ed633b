-- What a truthful tree says of its blocks: where its numbers let a block of some order be, and
-- where they don't.
use Rattle.std.proofs.Common.{◌≡◌, ℕ, zero, suc, ◌+◌, ◌-◌, ◌*◌, ◌^◌, ◌<◌, ◌≤◌, List, [], ◌∷◌, ◌++◌, All, refl, arith}
use Rattle.std.proofs.lemmas.Nat.{pow_pos}
use Rattle.std.proofs.lemmas.List.Elements.{All-nil, All-cons, All-append, All-weaker}
use Rattle.hpt_pool.specs.declared.tree.Node.{Node}
use Rattle.hpt_pool.specs.declared.tree.Node.TheVariants.{Taken, Open}
use Rattle.hpt_pool.specs.Pool.{block_at}
use Rattle.hpt_pool.specs.Tree.{root_of, left_of, right_of, block_or, blocks_below, hidden_blocks, largest_of, free_below, JoinsHalves, IsTruthful}
use Rattle.hpt_pool.specs.Free.{MeetsAll, IsLargestFree}
use Rattle.hpt_pool.proofs.TreeHalves.{double_order, step_ends}
use Rattle.hpt_pool.proofs.Rooms.{inside_met, room_none, none_largest, AreHalves, joined_largest, largest_joins}
use Rattle.hpt_pool.proofs.Halves.{LiesIn, lies_wider}

-- ---- one node
pub largest_free : (node : Node) (order : ℕ) → largest_of node ≤ free_below node order
largest_free Taken order = omega arith
largest_free (Open largest) order = omega arith

pub free_is_largest :
    (node : Node) (order : ℕ) → 0 < order → largest_of node ≡ order → free_below node order ≡ order
free_is_largest Taken order some is = refl
free_is_largest (Open largest) order some is = is

-- ---- where the blocks lie
pub within :
    (height place : ℕ) (nodes : List Node)
    → All (LiesIn place (place + 2 ^ (18 + height))) (blocks_below height place nodes)
unfolding blocks_below
within zero place nodes = at (root_of nodes) where
  at :
      (root : Node)
      → All (LiesIn place (place + 2 ^ (18 + zero))) (block_or root (block_at place 18) [])
  at Taken =
      All-cons (LiesIn place (place + 2 ^ (18 + zero))) (block_at place 18) []
      (record { from_low = omega arith; to_high = omega arith })
      (All-nil (LiesIn place (place + 2 ^ (18 + zero))))
  at (Open largest) = All-nil (LiesIn place (place + 2 ^ (18 + zero)))
within (suc height) place nodes =
    at (root_of nodes) (within height place (left_of (suc height) nodes))
    (within height (place + 2 ^ (18 + height)) (right_of (suc height) nodes)) where
      half : 2 ^ (18 + suc height) ≡ 2 ^ (18 + height) + 2 ^ (18 + height)
      half = double_order height

      at :
          (root : Node)
          → All (LiesIn place (place + 2 ^ (18 + height)))
          (blocks_below height place (left_of (suc height) nodes))
          → All (LiesIn (place + 2 ^ (18 + height)) (place + 2 ^ (18 + height) + 2 ^ (18 + height)))
          (blocks_below height (place + 2 ^ (18 + height)) (right_of (suc height) nodes))
          → All (LiesIn place (place + 2 ^ (18 + suc height)))
          (block_or root (block_at place (18 + suc height))
          (blocks_below height place (left_of (suc height) nodes)
          ++ blocks_below height (place + 2 ^ (18 + height))
          (right_of (suc height) nodes)))
      at Taken left right =
          All-cons (LiesIn place (place + 2 ^ (18 + suc height))) (block_at place (18 + suc height))
          [] (record { from_low = omega arith; to_high = omega arith })
          (All-nil (LiesIn place (place + 2 ^ (18 + suc height))))
      at (Open largest) left right =
          let two = half in
          All-append (LiesIn place (place + 2 ^ (18 + suc height)))
          (blocks_below height place (left_of (suc height) nodes))
          (blocks_below height (place + 2 ^ (18 + height)) (right_of (suc height) nodes))
          (All-weaker (LiesIn place (place + 2 ^ (18 + height)))
          (LiesIn place (place + 2 ^ (18 + suc height)))
          (λ block lies.
          lies_wider place (place + 2 ^ (18 + height)) place (place + 2 ^ (18 + suc height))
          block (omega arith) (omega arith) lies) _ left)
          (All-weaker
          (LiesIn (place + 2 ^ (18 + height)) (place + 2 ^ (18 + height) + 2 ^ (18 + height)))
          (LiesIn place (place + 2 ^ (18 + suc height)))
          (λ block lies.
          lies_wider (place + 2 ^ (18 + height))
          (place + 2 ^ (18 + height) + 2 ^ (18 + height)) place
          (place + 2 ^ (18 + suc height)) block (omega arith) (omega arith) lies) _ right)

-- ---- the numbers of a tree
halves_of :
    (height place : ℕ) (left right : List Node)
    → IsLargestFree (blocks_below height place left) height place (largest_of (root_of left))
    → IsLargestFree (blocks_below height (place + 2 ^ (18 + height)) right) height
    (place + 2 ^ (18 + height)) (largest_of (root_of right))
    → AreHalves height place (blocks_below height place left)
    (blocks_below height (place + 2 ^ (18 + height)) right) (largest_of (root_of left))
    (largest_of (root_of right))
halves_of height place left right free_left free_right = record {
  lie_left = within height place left;
  lie_right = within height (place + 2 ^ (18 + height)) right;
  free_left = free_left;
  free_right = free_right;
}

-- A taken block leaves nothing free.
taken_full : (height place : ℕ) → IsLargestFree (block_at place (18 + height) ∷ []) height place 0
taken_full height place = record {
  none = λ less. refl;
  most = omega arith;
  free = λ least. absurd (omega arith);
  full = λ order less least small k below.
      let ends = step_ends height order k small below in
      inside_met height place order (place + k * 2 ^ order) (omega arith) (omega arith);
}

-- In a truthful tree, wherever it stands, the root's number is the largest order that is free.
pub says :
    (height place : ℕ) (nodes : List Node)
    → IsTruthful height nodes
    → IsLargestFree (blocks_below height place nodes) height place (largest_of (root_of nodes))
unfolding blocks_below IsTruthful hidden_blocks
says zero place nodes truth =
    at (root_of nodes) (none_largest 0 0 (free_below (root_of nodes) 18) [] refl truth) where
      at :
          (root : Node)
          → free_below root 18 ≡ 18 + 0
          → IsLargestFree (block_or root (block_at place 18) []) 0 place (largest_of root)
      at Taken is = taken_full 0 place
      at (Open largest) is = record {
        none = λ less. absurd (omega arith);
        most = omega arith;
        free = λ least. record { steps = 0; below = pow_pos (18 + 0 - largest); free = refl };
        full = λ order less least small. absurd (omega arith);
      }
says (suc height) place nodes truth =
    let left = left_of (suc height) nodes in
    let right = right_of (suc height) nodes in
    let at_zero = halves_of height 0 left right (says height 0 left truth.1)
    (says height (0 + 2 ^ (18 + height)) right truth.2) in
    let joins = largest_joins height 0 (largest_of (root_of left)) (largest_of (root_of right))
    (free_below (root_of nodes) (18 + suc height)) (blocks_below height 0 left)
    (blocks_below height (0 + 2 ^ (18 + height)) right) at_zero truth.0 in
    let here = halves_of height place left right (says height place left truth.1)
    (says height (place + 2 ^ (18 + height)) right truth.2) in
    at (root_of nodes)
    (joined_largest height place (largest_of (root_of left)) (largest_of (root_of right))
    (free_below (root_of nodes) (18 + suc height)) (blocks_below height place left)
    (blocks_below height (place + 2 ^ (18 + height)) right) here joins) where
      at :
          (root : Node)
          → IsLargestFree
          (blocks_below height place (left_of (suc height) nodes)
          ++ blocks_below height (place + 2 ^ (18 + height)) (right_of (suc height) nodes))
          (suc height) place (free_below root (18 + suc height))
          → IsLargestFree
          (block_or root (block_at place (18 + suc height))
          (blocks_below height place (left_of (suc height) nodes)
          ++ blocks_below height (place + 2 ^ (18 + height))
          (right_of (suc height) nodes))) (suc height) place (largest_of root)
      at Taken free = taken_full (suc height) place
      at (Open largest) free = free

pub most :
    (height : ℕ) (nodes : List Node)
    → IsTruthful height nodes
    → largest_of (root_of nodes) ≤ 18 + height
most height nodes truth = (says height 0 nodes truth).most

pub met :
    (height place order : ℕ) (nodes : List Node)
    → IsTruthful height nodes
    → largest_of (root_of nodes) < order
    → 18 ≤ order
    → order ≤ 18 + height
    → MeetsAll (blocks_below height place nodes) height place order
met height place order nodes truth less least small =
    (says height place nodes truth).full order less least small

-- A tree that is free as a whole has no blocks.
pub free_whole :
    (height place : ℕ) (nodes : List Node)
    → IsTruthful height nodes
    → largest_of (root_of nodes) ≡ 18 + height
    → blocks_below height place nodes ≡ []
free_whole height place nodes truth is =
    room_none height place (largest_of (root_of nodes)) (blocks_below height place nodes)
    (within height place nodes) is ((says height place nodes truth).free (omega arith))

-- A leaf of which the whole is free below.
pub leaf_truthful : (nodes : List Node) → free_below (root_of nodes) 18 ≡ 18 → IsTruthful 0 nodes
unfolding IsTruthful
leaf_truthful nodes is = record {
  none = λ less. absurd (omega arith);
  most = omega arith;
  free =
      λ least.
      record { steps = 0; below = pow_pos (18 + 0 - free_below (root_of nodes) 18); free = refl };
  full = λ order less least small. absurd (omega arith);
}

-- ---- the halves of a tree that is no leaf
-- Both halves say the truth of their blocks, neither leaves more free than its whole, and the root
-- says what the two leave free together.
pub record HasHalves (height place : ℕ) (nodes left right : List Node) : Type 0 where
  pub truth_left : IsTruthful height left
  pub truth_right : IsTruthful height right
  pub joins :
      JoinsHalves (18 + height) (largest_of (root_of left)) (largest_of (root_of right))
      (free_below (root_of nodes) (18 + suc height))
  pub most_left : largest_of (root_of left) ≤ 18 + height
  pub most_right : largest_of (root_of right) ≤ 18 + height

pub halves :
    (height place : ℕ) (nodes : List Node)
    → IsTruthful (suc height) nodes
    → HasHalves height place nodes (left_of (suc height) nodes) (right_of (suc height) nodes)
unfolding IsTruthful hidden_blocks
halves height place nodes truth =
    let left = left_of (suc height) nodes in
    let right = right_of (suc height) nodes in
    let at_zero = halves_of height 0 left right (says height 0 left truth.1)
    (says height (0 + 2 ^ (18 + height)) right truth.2) in
    record {
      truth_left = truth.1;
      truth_right = truth.2;
      joins =
          largest_joins height 0 (largest_of (root_of left)) (largest_of (root_of right))
          (free_below (root_of nodes) (18 + suc height)) (blocks_below height 0 left)
          (blocks_below height (0 + 2 ^ (18 + height)) right) at_zero truth.0;
      most_left = most height left truth.1;
      most_right = most height right truth.2;
    }

-- What two truthful halves leave free, joined, is what their blocks leave free.
pub hides_joined :
    (height place : ℕ) (left right : List Node) (largest : ℕ)
    → IsTruthful height left
    → IsTruthful height right
    → JoinsHalves (18 + height) (largest_of (root_of left)) (largest_of (root_of right)) largest
    → IsLargestFree
    (blocks_below height place left ++ blocks_below height (place + 2 ^ (18 + height)) right)
    (suc height) place largest
hides_joined height place left right largest truth_left truth_right joins =
    joined_largest height place (largest_of (root_of left)) (largest_of (root_of right)) largest
    (blocks_below height place left) (blocks_below height (place + 2 ^ (18 + height)) right)
    (halves_of height place left right (says height place left truth_left)
    (says height (place + 2 ^ (18 + height)) right truth_right)) joins
