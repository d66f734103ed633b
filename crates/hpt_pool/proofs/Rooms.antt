-- What two halves of a block leave free, and what they leave together.
use Rattle.std.proofs.Common.{◌≡◌, ℕ, suc, ◌+◌, ◌-◌, ◌*◌, ◌^◌, ◌<◌, ◌≤◌, max, true, false, List, [], ◌∷◌, ◌++◌, All, refl, sym, ap, ◌∙◌, subst, inl, inr, ◌⊎◌, arith}
use Rattle.std.proofs.lemmas.Bool.{cases_eq, cases_lt}
use Rattle.std.proofs.lemmas.Bool.Decides.{nat_tests}
use Rattle.std.proofs.lemmas.Nat.{pow_pos}
use Rattle.std.proofs.lemmas.List.Elements.{All-head}
use Rattle.hpt_pool.specs.Pool.{Block, block_at, overlap}
use Rattle.hpt_pool.specs.Tree.{JoinsHalves}
use Rattle.hpt_pool.specs.Free.{is_met, MeetsAll, HasRoom, IsLargestFree}
use Rattle.hpt_pool.proofs.Halves.{LiesIn, met_left, met_right, met_wider, unmet, unmet_parts, unmet_above, unmet_below}
use Rattle.hpt_pool.proofs.TreeHalves.{joins_most, both_below, one_part, double_order, steps_double, step_ends, step_right}

-- ---- one step of the tree's own order
one_step : (height order : ℕ) → order ≡ 18 + height → 2 ^ (18 + height - order) ≡ 1
one_step height order is = ap (λ n. 2 ^ n) (let e : 18 + height - order ≡ 0 = omega arith in e)

pub first_step :
    (height place order : ℕ) (taken : List Block) (k : ℕ)
    → order ≡ 18 + height
    → k < 2 ^ (18 + height - order)
    → is_met taken order (place + k * 2 ^ order) ≡ is_met taken (18 + height) place
first_step height place order taken k is below =
    let one = one_step height order is in
    let first : k ≡ 0 = omega arith in
    ap (λ n. is_met taken order (place + n * 2 ^ order)) first
    ∙ ap (λ n. is_met taken order n) (let e : place + 0 * 2 ^ order ≡ place = omega arith in e)
    ∙ ap (λ n. is_met taken n place) is

-- Where the whole block overlaps none of the blocks in it there are none.
-- A block overlaps each block in it.
pub inside_met :
    (height place order at_place : ℕ)
    → place ≤ at_place
    → at_place + 2 ^ order ≤ place + 2 ^ (18 + height)
    → is_met (block_at place (18 + height) ∷ []) order at_place ≡ true
inside_met height place order at_place low high =
    let some = pow_pos order in
    let begins_before : at_place < place + 2 ^ (18 + height) = omega arith in
    let ends_after : place < at_place + 2 ^ order = omega arith in
    grind (arith, nat_tests, begins_before, ends_after)

unmet_none :
    (height place : ℕ) (blocks : List Block)
    → All (LiesIn place (place + 2 ^ (18 + height))) blocks
    → is_met blocks (18 + height) place ≡ false
    → blocks ≡ []
unmet_none height place [] lie free = refl
unmet_none height place (block ∷ blocks) lie free =
    let lies = All-head (LiesIn place (place + 2 ^ (18 + height))) block blocks lie in
    let from = lies.from_low in
    let to : block.place + 2 ^ block.order ≤ place + 2 ^ (18 + height) = lies.to_high in
    let some = pow_pos block.order in
    let begins : place < block.place + 2 ^ block.order = omega arith in
    let ends : block.place < place + 2 ^ (18 + height) = omega arith in
    let meets : overlap (block_at place (18 + height)) block ≡ true = grind
    (arith, nat_tests, begins, ends) in
    let met : is_met (block ∷ blocks) (18 + height) place ≡ true = rw meets refl in
    absurd (cc)

pub room_none :
    (height place order : ℕ) (taken : List Block)
    → All (LiesIn place (place + 2 ^ (18 + height))) taken
    → order ≡ 18 + height
    → HasRoom taken height place order
    → taken ≡ []
room_none height place order taken lie is room =
    unmet_none height place taken lie
    (sym (first_step height place order taken room.steps is room.below) ∙ room.free)

-- Nothing taken leaves the whole block free.
pub none_largest :
    (height place largest : ℕ) (taken : List Block)
    → taken ≡ []
    → IsLargestFree taken height place largest
    → largest ≡ 18 + height
none_largest height place largest taken none free = at (cases_lt largest (18 + height)) where
  at : (largest < 18 + height) ⊎ (18 + height ≤ largest) → largest ≡ 18 + height
  at (inr large) = let most = free.most in omega arith
  at (inl small) =
      let positive = pow_pos (18 + height - (18 + height)) in
      let met = free.full (18 + height) small (omega arith) (omega arith) 0 positive in
      let unmet_here : is_met taken (18 + height) (place + 0 * 2 ^ (18 + height)) ≡ false = ap
      (λ (xs : List Block). is_met xs (18 + height) (place + 0 * 2 ^ (18 + height))) none in
      absurd (cc)

-- ---- what is free in two halves
-- The blocks of the halves, and the largest order that each leaves free.
pub record AreHalves (height place : ℕ) (left right : List Block) (left_largest right_largest : ℕ) :
    Type 0 where
  pub lie_left : All (LiesIn place (place + 2 ^ (18 + height))) left
  pub lie_right :
      All (LiesIn (place + 2 ^ (18 + height)) (place + 2 ^ (18 + height) + 2 ^ (18 + height))) right
  pub free_left : IsLargestFree left height place left_largest
  pub free_right : IsLargestFree right height (place + 2 ^ (18 + height)) right_largest

-- A block that fits in a half fits in the whole.
room_left :
    (height place order l r : ℕ) (left right : List Block)
    → AreHalves height place left right l r
    → order ≤ 18 + height
    → HasRoom left height place order
    → HasRoom (left ++ right) (suc height) place order
room_left height place order l r left right parts small room =
    let double = steps_double height order small in
    let below = room.below in
    let ends = step_ends height order room.steps small below in
    record {
      steps = room.steps;
      below = omega arith;
      free =
          unmet left right order (place + room.steps * 2 ^ order) room.free
          (unmet_above right order (place + room.steps * 2 ^ order)
          (place + 2 ^ (18 + height)) (place + 2 ^ (18 + height) + 2 ^ (18 + height))
          (omega arith) parts.lie_right);
    }

room_right :
    (height place order l r : ℕ) (left right : List Block)
    → AreHalves height place left right l r
    → order ≤ 18 + height
    → HasRoom right height (place + 2 ^ (18 + height)) order
    → HasRoom (left ++ right) (suc height) place order
room_right height place order l r left right parts small room =
    let double = steps_double height order small in
    let below = room.below in
    let at_place = step_right height order place room.steps small in
    record {
      steps = 2 ^ (18 + height - order) + room.steps;
      below = omega arith;
      free =
          ap (λ n. is_met (left ++ right) order n) (sym at_place)
          ∙ unmet left right order (place + 2 ^ (18 + height) + room.steps * 2 ^ order)
          (unmet_below left order (place + 2 ^ (18 + height) + room.steps * 2 ^ order) place
          (place + 2 ^ (18 + height)) (omega arith) parts.lie_left) room.free;
    }

-- A block of a half's order or less that fits in the whole fits in a half.
room_half :
    (height place order : ℕ) (left right : List Block)
    → order ≤ 18 + height
    → HasRoom (left ++ right) (suc height) place order
    → HasRoom left height place order ⊎ HasRoom right height (place + 2 ^ (18 + height)) order
room_half height place order left right small room =
    at (cases_lt room.steps (2 ^ (18 + height - order))) where
      at :
          (room.steps < 2 ^ (18 + height - order)) ⊎ (2 ^ (18 + height - order) ≤ room.steps)
          → HasRoom left height place order ⊎ HasRoom right height (place + 2 ^ (18 + height)) order
      at (inl low) =
          inl
          (record {
            steps = room.steps;
            below = low;
            free = (unmet_parts left right order (place + room.steps * 2 ^ order) room.free).0;
          })
      at (inr high) =
          let double = steps_double height order small in
          let below = room.below in
          let steps = 2 ^ (18 + height - order) in
          let back :
          2 ^ (18 + height - order) + (room.steps - 2 ^ (18 + height - order)) ≡ room.steps =
          omega arith in
          let same :
          place + 2 ^ (18 + height) + (room.steps - steps) * 2 ^ order ≡ place + room.steps *
          2 ^ order = step_right height order place (room.steps - steps) small ∙ ap
          (λ n. place + n * 2 ^ order) back in
          inr
          (record {
            steps = room.steps - steps;
            below = omega arith;
            free =
                ap (λ n. is_met right order n) same
                ∙ (unmet_parts left right order (place + room.steps * 2 ^ order) room.free).1;
          })

full_room :
    (taken : List Block) (height place order : ℕ)
    → MeetsAll taken height place order
    → HasRoom taken height place order
    → ⊥
full_room taken height place order full room =
    let met = full room.steps room.below in let free = room.free in cc

-- Where each half is full for an order, so is the whole.
full_halves :
    (height place order l r : ℕ) (left right : List Block)
    → AreHalves height place left right l r
    → order ≤ 18 + height
    → MeetsAll left height place order
    → MeetsAll right height (place + 2 ^ (18 + height)) order
    → MeetsAll (left ++ right) (suc height) place order
full_halves height place order l r left right parts small left_met right_met k below =
    at (cases_lt k (2 ^ (18 + height - order))) where
      at :
          (k < 2 ^ (18 + height - order)) ⊎ (2 ^ (18 + height - order) ≤ k)
          → is_met (left ++ right) order (place + k * 2 ^ order) ≡ true
      at (inl low) = met_left left right order (place + k * 2 ^ order) (left_met k low)
      at (inr high) =
          let double = steps_double height order small in
          let steps = 2 ^ (18 + height - order) in
          let back : 2 ^ (18 + height - order) + (k - 2 ^ (18 + height - order)) ≡ k = omega arith
          in
          let same : place + 2 ^ (18 + height) + (k - steps) * 2 ^ order ≡ place + k * 2 ^ order =
          step_right height order place (k - steps) small ∙ ap (λ n. place + n * 2 ^ order) back in
          met_right left right order (place + k * 2 ^ order)
          (ap (λ n. is_met right order n) (sym same) ∙ right_met (k - steps) (omega arith))

-- The whole is full for its own order where a half is for its own.
full_part :
    (height place l r : ℕ) (left right : List Block)
    → AreHalves height place left right l r
    → (l < 18 + height) ⊎ (r < 18 + height)
    → is_met (left ++ right) (18 + suc height) place ≡ true
full_part height place l r left right parts (inl part) =
    let double = double_order height in
    let met = parts.free_left.full (18 + height) part (omega arith) (omega arith) 0
    (pow_pos (18 + height - (18 + height))) in
    let here = sym
    (first_step height place (18 + height) left 0 refl (pow_pos (18 + height - (18 + height))))
    ∙ met in
    met_left left right (18 + suc height) place
    (met_wider left (18 + height) place (18 + suc height) place (omega arith) (omega arith)
    here)
full_part height place l r left right parts (inr part) =
    let double = double_order height in
    let met = parts.free_right.full (18 + height) part (omega arith) (omega arith) 0
    (pow_pos (18 + height - (18 + height))) in
    let here = sym
    (first_step height (place + 2 ^ (18 + height)) (18 + height) right 0 refl
    (pow_pos (18 + height - (18 + height)))) ∙ met in
    met_right left right (18 + suc height) place
    (met_wider right (18 + height) (place + 2 ^ (18 + height)) (18 + suc height) place
    (omega arith) (omega arith) here)

-- So what the halves leave free, joined, is what the whole leaves free.
pub joined_largest :
    (height place l r largest : ℕ) (left right : List Block)
    → AreHalves height place left right l r
    → JoinsHalves (18 + height) l r largest
    → IsLargestFree (left ++ right) (suc height) place largest
joined_largest height place l r largest left right parts joins = record {
  none = none (cases_eq l (18 + height)) (cases_eq r (18 + height));
  most =
      let limit = joins_most (18 + height) l r largest joins parts.free_left.most
      parts.free_right.most in
      omega arith;
  free = free (cases_eq l (18 + height)) (cases_eq r (18 + height));
  full = λ order less least small. full order less least small (cases_lt (18 + height) order);
} where
  most_left : l ≤ 18 + height
  most_left = parts.free_left.most

  most_right : r ≤ 18 + height
  most_right = parts.free_right.most

  none :
      (l ≡ 18 + height) ⊎ (l ≡ 18 + height → ⊥)
      → (r ≡ 18 + height) ⊎ (r ≡ 18 + height → ⊥)
      → largest < 18
      → largest ≡ 0
  none (inl all_left) (inl all_right) small =
      let is = joins.whole all_left all_right in absurd (omega arith)
  none (inr some) either small =
      let limit = most_left in
      let is = joins.left_part (omega arith) in
      let left_none = parts.free_left.none (omega arith) in
      let right_none = parts.free_right.none (omega arith) in
      omega arith
  none (inl all_left) (inr some) small =
      let limit = most_right in let is = joins.right_part (omega arith) in absurd (omega arith)

  larger : largest ≡ max l r → 18 ≤ largest → HasRoom (left ++ right) (suc height) place largest
  larger is least = of_half (cases_lt l r) where
    of_half : (l < r) ⊎ (r ≤ l) → HasRoom (left ++ right) (suc height) place largest
    of_half (inl lower) =
        let limit = most_right in
        let same : r ≡ largest = omega arith in
        subst (λ n. HasRoom (left ++ right) (suc height) place n) same
        (room_right height place r l r left right parts limit
        (parts.free_right.free (omega arith)))
    of_half (inr higher) =
        let limit = most_left in
        let same : l ≡ largest = omega arith in
        subst (λ n. HasRoom (left ++ right) (suc height) place n) same
        (room_left height place l l r left right parts limit
        (parts.free_left.free (omega arith)))

  free :
      (l ≡ 18 + height) ⊎ (l ≡ 18 + height → ⊥)
      → (r ≡ 18 + height) ⊎ (r ≡ 18 + height → ⊥)
      → 18 ≤ largest
      → HasRoom (left ++ right) (suc height) place largest
  free (inl all_left) (inl all_right) least =
      let is = joins.whole all_left all_right in
      let no_left = room_none height place l left parts.lie_left all_left
      (parts.free_left.free (omega arith)) in
      let no_right = room_none height (place + 2 ^ (18 + height)) r right parts.lie_right all_right
      (parts.free_right.free (omega arith)) in
      record {
        steps = 0;
        below = pow_pos (18 + suc height - largest);
        free =
            ap (λ (xs : List Block). is_met (xs ++ right) largest (place + 0 * 2 ^ largest))
            no_left
            ∙ ap (λ (xs : List Block). is_met xs largest (place + 0 * 2 ^ largest)) no_right;
      }
  free (inr some) either least =
      let limit = most_left in larger (joins.left_part (omega arith)) least
  free (inl all_left) (inr some) least =
      let limit = most_right in larger (joins.right_part (omega arith)) least

  full :
      (order : ℕ)
      → largest < order
      → 18 ≤ order
      → order ≤ 18 + suc height
      → (18 + height < order) ⊎ (order ≤ 18 + height)
      → MeetsAll (left ++ right) (suc height) place order
  full order less least small (inr lower) =
      let both = both_below (18 + height) l r largest order joins most_left most_right less
      (omega arith) in
      full_halves height place order l r left right parts lower
      (parts.free_left.full order both.0 least lower)
      (parts.free_right.full order both.1 least lower)
  full order less least small (inl own) =
      let is : order ≡ 18 + suc height = omega arith in
      λ k below.
      first_step (suc height) place order (left ++ right) k is below
      ∙ full_part height place l r left right parts
      (one_part (18 + height) l r largest joins most_left most_right (omega arith))

-- And what the whole leaves free joins what the halves do.
pub largest_joins :
    (height place l r largest : ℕ) (left right : List Block)
    → AreHalves height place left right l r
    → IsLargestFree (left ++ right) (suc height) place largest
    → JoinsHalves (18 + height) l r largest
largest_joins height place l r largest left right parts whole_free = record {
  whole = λ all_left all_right.
      let least_left = least_of all_left in
      let least_right = least_of all_right in
      let no_left = room_none height place l left parts.lie_left all_left
      (parts.free_left.free least_left) in
      let no_right = room_none height (place + 2 ^ (18 + height)) r right parts.lie_right all_right
      (parts.free_right.free least_right) in
      let is = none_largest (suc height) place largest (left ++ right)
      (ap (λ (xs : List Block). xs ++ right) no_left ∙ no_right) whole_free in
      omega arith;
  left_part =
      λ part.
      let low = at_least_left (cases_lt largest l) in
      let low_right = at_least_right (cases_lt largest r) in
      let high = at_most (inl part) (cases_lt largest 18) in
      omega arith;
  right_part =
      λ part.
      let low = at_least_left (cases_lt largest l) in
      let low_right = at_least_right (cases_lt largest r) in
      let high = at_most (inr part) (cases_lt largest 18) in
      omega arith;
} where
  least_of : {n : ℕ} → n ≡ 18 + height → 18 ≤ n
  least_of {n} is = omega arith

  -- Neither half leaves more free than the whole.
  at_least_left : (largest < l) ⊎ (l ≤ largest) → l ≤ largest
  at_least_left (inr low) = low
  at_least_left (inl less) = of_least (cases_lt l 18) where
    of_least : (l < 18) ⊎ (18 ≤ l) → l ≤ largest
    of_least (inl small) = let none = parts.free_left.none small in omega arith
    of_least (inr least) =
        let limit = parts.free_left.most in
        absurd
        (full_room (left ++ right) (suc height) place l
        (whole_free.full l less least (omega arith))
        (room_left height place l l r left right parts limit (parts.free_left.free least)))

  at_least_right : (largest < r) ⊎ (r ≤ largest) → r ≤ largest
  at_least_right (inr low) = low
  at_least_right (inl less) = of_least (cases_lt r 18) where
    of_least : (r < 18) ⊎ (18 ≤ r) → r ≤ largest
    of_least (inl small) = let none = parts.free_right.none small in omega arith
    of_least (inr least) =
        let limit = parts.free_right.most in
        absurd
        (full_room (left ++ right) (suc height) place r
        (whole_free.full r less least (omega arith))
        (room_right height place r l r left right parts limit
        (parts.free_right.free least)))

  -- What is free in the whole is free in a half, except for the whole itself.
  at_most :
      (l < 18 + height) ⊎ (r < 18 + height) → (largest < 18) ⊎ (18 ≤ largest) → largest ≤ max l r
  at_most part (inl small) = let none = whole_free.none small in omega arith
  at_most part (inr least) = of_order (cases_lt (18 + height) largest) where
    in_half :
        HasRoom left height place largest ⊎ HasRoom right height (place + 2 ^ (18 + height)) largest
        → largest ≤ 18 + height
        → (l < largest) ⊎ (largest ≤ l)
        → (r < largest) ⊎ (largest ≤ r)
        → largest ≤ max l r
    in_half either small (inr low) any = omega arith
    in_half either small (inl less) (inr low) = omega arith
    in_half (inl room) small (inl less) (inl less_right) =
        absurd
        (full_room left height place largest (parts.free_left.full largest less least small)
        room)
    in_half (inr room) small (inl less) (inl less_right) =
        absurd
        (full_room right height (place + 2 ^ (18 + height)) largest
        (parts.free_right.full largest less_right least small) room)

    of_order : (18 + height < largest) ⊎ (largest ≤ 18 + height) → largest ≤ max l r
    of_order (inr small) =
        in_half (room_half height place largest left right small (whole_free.free least)) small
        (cases_lt l largest) (cases_lt r largest)
    of_order (inl own) =
        let limit = whole_free.most in
        let is : largest ≡ 18 + suc height = omega arith in
        let room = whole_free.free least in
        let free = sym
        (first_step (suc height) place largest (left ++ right) room.steps is room.below) ∙
        room.free in
        let full = full_part height place l r left right parts part in
        absurd (cc)
