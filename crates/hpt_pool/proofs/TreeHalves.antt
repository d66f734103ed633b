-- Two halves of a tree, and the steps of an order in it.
use Rattle.std.proofs.Common.{◌≡◌, ℕ, suc, ◌+◌, ◌-◌, ◌*◌, ◌^◌, ◌<◌, ◌≤◌, ap, ◌∙◌, inl, inr, ◌⊎◌, arith}
use Rattle.std.proofs.lemmas.Bool.{cases_eq, cases_lt}
use Rattle.std.proofs.lemmas.Nat.{pow-add}
use Rattle.hpt_pool.specs.Tree.{JoinsHalves}
use Rattle.hpt_pool.proofs.Powers.{pow_split}

-- ---- two halves
pub joins_same :
    (order left right largest order' left' right' largest' : ℕ)
    → order ≡ order'
    → left ≡ left'
    → right ≡ right'
    → largest ≡ largest'
    → JoinsHalves order left right largest
    → JoinsHalves order' left' right' largest'
joins_same order left right largest order' left' right' largest' order_is left_is right_is
    largest_is joins =
    record {
      whole = λ all_left all_right. let is = joins.whole (omega arith) (omega arith) in omega arith;
      left_part = λ part. let is = joins.left_part (omega arith) in omega arith;
      right_part = λ part. let is = joins.right_part (omega arith) in omega arith;
    }

pub joins_most :
    (order left right largest : ℕ)
    → JoinsHalves order left right largest
    → left ≤ order
    → right ≤ order
    → largest ≤ order + 1
joins_most order left right largest joins left_most right_most =
    at (cases_eq left order) (cases_eq right order) where
      at :
          (left ≡ order) ⊎ (left ≡ order → ⊥)
          → (right ≡ order) ⊎ (right ≡ order → ⊥)
          → largest ≤ order + 1
      at (inl all_left) (inl all_right) = let is = joins.whole all_left all_right in omega arith
      at (inr some_left) either = let is = joins.left_part (omega arith) in omega arith
      at (inl all_left) (inr some_right) = let is = joins.right_part (omega arith) in omega arith

pub both_whole :
    (order left right largest : ℕ)
    → JoinsHalves order left right largest
    → left ≤ order
    → right ≤ order
    → largest ≡ order + 1
    → (left ≡ order) × (right ≡ order)
both_whole order left right largest joins left_most right_most is =
    at (cases_eq left order) (cases_eq right order) where
      at :
          (left ≡ order) ⊎ (left ≡ order → ⊥)
          → (right ≡ order) ⊎ (right ≡ order → ⊥)
          → (left ≡ order) × (right ≡ order)
      at (inl all_left) (inl all_right) = (all_left, all_right)
      at (inr some_left) either = let larger = joins.left_part (omega arith) in absurd (omega arith)
      at (inl all_left) (inr some_right) =
          let larger = joins.right_part (omega arith) in absurd (omega arith)

-- Where the halves leave less than this order, each of them does.
pub both_below :
    (order left right largest wanted : ℕ)
    → JoinsHalves order left right largest
    → left ≤ order
    → right ≤ order
    → largest < wanted
    → wanted ≤ order + 1
    → (left < wanted) × (right < wanted)
both_below order left right largest wanted joins left_most right_most below most =
    at (cases_eq left order) (cases_eq right order) where
      at :
          (left ≡ order) ⊎ (left ≡ order → ⊥)
          → (right ≡ order) ⊎ (right ≡ order → ⊥)
          → (left < wanted) × (right < wanted)
      at (inl all_left) (inl all_right) =
          let is = joins.whole all_left all_right in absurd (omega arith)
      at (inr some_left) either =
          let larger = joins.left_part (omega arith) in (omega arith, omega arith)
      at (inl all_left) (inr some_right) =
          let larger = joins.right_part (omega arith) in (omega arith, omega arith)

-- Where they leave this order and the left one doesn't, the right one does.
pub other_half :
    (order left right largest wanted : ℕ)
    → JoinsHalves order left right largest
    → left ≤ order
    → right ≤ order
    → wanted ≤ largest
    → wanted ≤ order
    → left < wanted
    → wanted ≤ right
other_half order left right largest wanted joins left_most right_most some most below =
    let larger = joins.left_part (omega arith) in omega arith

-- Where they leave less than their whole, one of them is less than free as a whole.
pub one_part :
    (order left right largest : ℕ)
    → JoinsHalves order left right largest
    → left ≤ order
    → right ≤ order
    → largest < order + 1
    → (left < order) ⊎ (right < order)
one_part order left right largest joins left_most right_most below =
    at (cases_lt left order) (cases_lt right order) where
      at :
          (left < order) ⊎ (order ≤ left)
          → (right < order) ⊎ (order ≤ right)
          → (left < order) ⊎ (right < order)
      at (inl part) either = inl part
      at (inr whole) (inl part) = inr part
      at (inr whole) (inr other) =
          let is = joins.whole (omega arith) (omega arith) in absurd (omega arith)

-- ---- the steps of some order
pub double_order : (height : ℕ) → 2 ^ (18 + suc height) ≡ 2 ^ (18 + height) + 2 ^ (18 + height)
double_order height =
    ap (λ n. 2 ^ n) (let e : 18 + suc height ≡ 18 + height + 1 = omega arith in e)
    ∙ (let e = pow-add 2 (18 + height) 1 in omega arith)

-- In two halves are twice as many.
pub steps_double :
    (height order : ℕ)
    → order ≤ 18 + height
    → 2 ^ (18 + suc height - order) ≡ 2 ^ (18 + height - order) + 2 ^ (18 + height - order)
steps_double height order small =
    ap (λ n. 2 ^ n) (let e : 18 + suc height - order ≡ 18 + height - order + 1 = omega arith in e)
    ∙ (let e = pow-add 2 (18 + height - order) 1 in omega arith)

-- A step ends in the tree's block.
pub step_ends :
    (height order k : ℕ)
    → order ≤ 18 + height
    → k < 2 ^ (18 + height - order)
    → k * 2 ^ order + 2 ^ order ≤ 2 ^ (18 + height)
step_ends height order k small below =
    rows (2 ^ (18 + height - order)) (2 ^ order) (2 ^ (18 + height))
    (pow_split order (18 + height) small) below where
      rows : (count size whole : ℕ) → whole ≡ count * size → k < count → k * size + size ≤ whole
      rows count size whole is lower =
          let under : (k + 1) * size ≤ count * size = grind arith in
          let next : (k + 1) * size ≡ k * size + size = grind arith in
          omega arith

-- A step of the right half, counted from the left one.
pub step_right :
    (height order place k : ℕ)
    → order ≤ 18 + height
    → place + 2 ^ (18 + height) + k * 2 ^ order
    ≡ place + (2 ^ (18 + height - order) + k) * 2 ^ order
step_right height order place k small =
    rows (2 ^ (18 + height - order)) (2 ^ order) (2 ^ (18 + height))
    (pow_split order (18 + height) small) where
      rows :
          (count size whole : ℕ)
          → whole ≡ count * size
          → place + whole + k * size ≡ place + (count + k) * size
      rows count size whole is = let parts :
          (count + k) * size ≡ count * size + k * size = grind arith in omega arith
