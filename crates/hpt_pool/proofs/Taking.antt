-- What taking the first free block makes of a tree.
use Rattle.std.proofs.Common.{◌≡◌, ℕ, suc, ◌+◌, ◌-◌, ◌*◌, ◌^◌, ◌<◌, ◌≤◌, List, [], ◌∷◌, ◌++◌, set, true, All, sym, ap, ◌∙◌, subst, inl, inr, ◌⊎◌, arith}
use Rattle.std.proofs.lemmas.Bool.{cases_lt}
use Rattle.std.proofs.lemmas.Nat.{pow_pos}
use Rattle.std.proofs.lemmas.List.{length-set}
use Rattle.std.proofs.lemmas.List.Elements.{All-weaker}
use Rattle.hpt_pool.specs.declared.tree.Node.{Node}
use Rattle.hpt_pool.specs.declared.tree.Node.TheVariants.{Taken, Open}
use Rattle.hpt_pool.specs.Pool.{Block, block_at, taken_with}
use Rattle.hpt_pool.specs.Tree.{root_of, left_of, right_of, blocks_below, largest_of, free_below, IsTree}
use Rattle.hpt_pool.specs.Free.{is_met, IsFirstFree}
use Rattle.hpt_pool.proofs.Halves.{LiesIn, lies_wider, met_left, met_right, unmet, unmet_above, unmet_below, with_left, with_right, with_alone}
use Rattle.hpt_pool.proofs.Mending.{MadeOf}
use Rattle.hpt_pool.proofs.Parts.{parts_truthful, parts_blocks, open_blocks, root_open, some_nodes, root_truthful, root_blocks}
use Rattle.hpt_pool.proofs.TreeHalves.{steps_double, step_ends, step_right, other_half}
use Rattle.hpt_pool.proofs.Truth.{most, largest_free, free_is_largest, free_whole, halves, within, met}

-- ---- the first free place
first_here :
    (height place order : ℕ) (taken : List Block)
    → taken ≡ []
    → order ≡ 18 + height
    → IsFirstFree taken height place order place
first_here height place order taken none is = record {
  steps = 0;
  below = pow_pos (18 + height - order);
  is = omega arith;
  free = ap (λ (xs : List Block). is_met xs order place) none;
  lower = λ k before. absurd (omega arith);
}

first_left :
    (height place order answer high : ℕ) (left right : List Block)
    → order ≤ 18 + height
    → All (LiesIn (place + 2 ^ (18 + height)) high) right
    → IsFirstFree left height place order answer
    → IsFirstFree (left ++ right) (suc height) place order answer
first_left height place order answer high left right small lie first =
    let double = steps_double height order small in
    let below = first.below in
    let is = first.is in
    let ends = step_ends height order first.steps small below in
    record {
      steps = first.steps;
      below = omega arith;
      is = is;
      free =
          unmet left right order answer first.free
          (unmet_above right order answer (place + 2 ^ (18 + height)) high (omega arith) lie);
      lower = λ k before. met_left left right order (place + k * 2 ^ order) (first.lower k before);
    }

first_right :
    (height place order answer : ℕ) (left right : List Block)
    → order ≤ 18 + height
    → All (LiesIn place (place + 2 ^ (18 + height))) left
    → ((k : ℕ) → k < 2 ^ (18 + height - order) → is_met left order (place + k * 2 ^ order) ≡ true)
    → IsFirstFree right height (place + 2 ^ (18 + height)) order answer
    → IsFirstFree (left ++ right) (suc height) place order answer
first_right height place order answer left right small lie met_all first =
    let double = steps_double height order small in
    let below = first.below in
    let is = first.is in
    record {
      steps = 2 ^ (18 + height - order) + first.steps;
      below = omega arith;
      is = is ∙ step_right height order place first.steps small;
      free =
          unmet left right order answer
          (unmet_below left order answer place (place + 2 ^ (18 + height)) (omega arith) lie)
          first.free;
      lower = λ k before. lower k before (cases_lt k (2 ^ (18 + height - order)));
    } where
      lower :
          (k : ℕ)
          → k < 2 ^ (18 + height - order) + first.steps
          → (k < 2 ^ (18 + height - order)) ⊎ (2 ^ (18 + height - order) ≤ k)
          → is_met (left ++ right) order (place + k * 2 ^ order) ≡ true
      lower k before (inl low) = met_left left right order (place + k * 2 ^ order) (met_all k low)
      lower k before (inr high) =
          let steps = 2 ^ (18 + height - order) in
          let back : 2 ^ (18 + height - order) + (k - 2 ^ (18 + height - order)) ≡ k = omega arith
          in
          let same : place + 2 ^ (18 + height) + (k - steps) * 2 ^ order ≡ place + k * 2 ^ order =
          step_right height order place (k - steps) small ∙ ap (λ n. place + n * 2 ^ order) back
          in
          met_right left right order (place + k * 2 ^ order)
          (ap (λ n. is_met right order n) (sym same) ∙ first.lower (k - steps) (omega arith))

-- ---- what a call makes
-- The answer is the first free block of this order in the tree, and the nodes after are a tree with
-- that block taken too.
pub record TakesFirst (height place order : ℕ) (nodes after : List Node) (answer : ℕ) : Type 0 where
  pub first : IsFirstFree (blocks_below height place nodes) height place order answer
  pub taken :
      blocks_below height place after
      ≡ taken_with (blocks_below height place nodes) (block_at answer order)
  pub tree : IsTree height after

-- The whole block is taken.
pub takes_whole :
    (height place order : ℕ) (nodes : List Node)
    → IsTree height nodes
    → order ≤ largest_of (root_of nodes)
    → 18 + height ≡ order
    → TakesFirst height place order nodes (set nodes 0 Taken) place
takes_whole height place order nodes tree some is =
    let truth = tree.truthful in
    let least = most height nodes truth in
    let full = some_nodes height nodes tree.whole in
    let none : blocks_below height place nodes ≡ [] = free_whole height place nodes truth
    (omega arith) in
    record {
      first = first_here height place order (blocks_below height place nodes) none (omega arith);
      taken =
          root_blocks height place nodes Taken full
          ∙ ap (λ n. block_at place n ∷ []) is
          ∙ sym (with_alone (block_at place order))
          ∙ ap (λ (xs : List Block). taken_with xs (block_at place order)) (sym none);
      tree =
          record {
            whole = ap (λ n. n + 1) (length-set nodes 0 Taken) ∙ tree.whole;
            truthful =
                root_truthful height nodes Taken full truth
                (sym
                (free_is_largest (root_of nodes) (18 + height) (omega arith)
                (omega arith)));
          };
    }

-- ---- a block is taken in a half
-- The tree before, with the height of its halves, and the order that is taken.
pub record TakesIn (height lower order : ℕ) (nodes : List Node) : Type 0 where
  pub is : height ≡ suc lower
  pub tree : IsTree height nodes
  pub some : order ≤ largest_of (root_of nodes)
  pub least : 18 ≤ order
  pub small : order ≤ 18 + lower

-- If the left half has no such block, the right one has one.
pub right_some :
    (height lower order : ℕ) (nodes : List Node)
    → TakesIn height lower order nodes
    → largest_of (root_of (left_of height nodes)) < order
    → order ≤ largest_of (root_of (right_of height nodes))
right_some height lower order nodes old less =
    subst
    (λ (n : ℕ).
    TakesIn n lower order nodes
    → largest_of (root_of (left_of n nodes)) < order
    → order ≤ largest_of (root_of (right_of n nodes))) (sym old.is) (of_next lower) old less
  where
    of_next :
        (low : ℕ)
        → TakesIn (suc low) low order nodes
        → largest_of (root_of (left_of (suc low) nodes)) < order
        → order ≤ largest_of (root_of (right_of (suc low) nodes))
    of_next low before below =
        let pieces = halves low 0 nodes before.tree.truthful in
        let least = before.least in
        let some = before.some in
        let free : largest_of (root_of nodes) ≤ free_below (root_of nodes) (18 + suc low) =
        largest_free (root_of nodes) (18 + suc low) in
        other_half (18 + low) (largest_of (root_of (left_of (suc low) nodes)))
        (largest_of (root_of (right_of (suc low) nodes)))
        (free_below (root_of nodes) (18 + suc low)) order pieces.joins pieces.most_left
        pieces.most_right (omega arith) before.small below

takes_left_of :
    (height place order answer largest : ℕ) (nodes after half : List Node)
    → TakesIn (suc height) height order nodes
    → MadeOf (suc height) height nodes after half (right_of (suc height) nodes) largest
    → TakesFirst height place order (left_of (suc height) nodes) half answer
    → TakesFirst (suc height) place order nodes after answer
takes_left_of height place order answer largest nodes after half old made changed =
    let pieces = halves height place nodes old.tree.truthful in
    let some = old.some in
    let least = old.least in
    let small = old.small in
    let left = blocks_below height place (left_of (suc height) nodes) in
    let right = blocks_below height (place + 2 ^ (18 + height)) (right_of (suc height) nodes) in
    let before = open_blocks height place nodes (largest_of (root_of nodes))
    (root_open (root_of nodes) (omega arith)) in
    let lie = within height (place + 2 ^ (18 + height)) (right_of (suc height) nodes) in
    let first = changed.first in
    let is = first.is in
    let ends = step_ends height order first.steps small first.below in
    record {
      first =
          subst (λ (xs : List Block). IsFirstFree xs (suc height) place order answer) (sym before)
          (first_left height place order answer (place + 2 ^ (18 + height) + 2 ^ (18 + height))
          left right small lie first);
      taken =
          parts_blocks height place after (Open largest) half (right_of (suc height) nodes)
          made.parts
          ∙ ap (λ (xs : List Block). xs ++ right) changed.taken
          ∙ sym
          (with_left left right (block_at answer order)
          (place + 2 ^ (18 + height) + 2 ^ (18 + height))
          (All-weaker
          (LiesIn (place + 2 ^ (18 + height))
          (place + 2 ^ (18 + height) + 2 ^ (18 + height)))
          (LiesIn (answer + 2 ^ order)
          (place + 2 ^ (18 + height) + 2 ^ (18 + height)))
          (λ block lies.
          lies_wider (place + 2 ^ (18 + height))
          (place + 2 ^ (18 + height) + 2 ^ (18 + height)) (answer + 2 ^ order)
          (place + 2 ^ (18 + height) + 2 ^ (18 + height)) block (omega arith)
          (omega arith) lies) right lie))
          ∙ ap (λ (xs : List Block). taken_with xs (block_at answer order)) (sym before);
      tree = record {
        whole = ap (λ n. n + 1) made.long ∙ old.tree.whole;
        truthful =
            parts_truthful height after (Open largest) half (right_of (suc height) nodes) made.parts
            made.joins changed.tree.truthful pieces.truth_right;
      };
    }

takes_right_of :
    (height place order answer largest : ℕ) (nodes after half : List Node)
    → TakesIn (suc height) height order nodes
    → largest_of (root_of (left_of (suc height) nodes)) < order
    → MadeOf (suc height) height nodes after (left_of (suc height) nodes) half largest
    → TakesFirst height (place + 2 ^ (18 + height)) order (right_of (suc height) nodes) half answer
    → TakesFirst (suc height) place order nodes after answer
takes_right_of height place order answer largest nodes after half old less made changed =
    let pieces = halves height place nodes old.tree.truthful in
    let some = old.some in
    let least = old.least in
    let small = old.small in
    let left = blocks_below height place (left_of (suc height) nodes) in
    let right = blocks_below height (place + 2 ^ (18 + height)) (right_of (suc height) nodes) in
    let before = open_blocks height place nodes (largest_of (root_of nodes))
    (root_open (root_of nodes) (omega arith)) in
    let lie = within height place (left_of (suc height) nodes) in
    let first = changed.first in
    let is = first.is in
    record {
      first =
          subst (λ (xs : List Block). IsFirstFree xs (suc height) place order answer) (sym before)
          (first_right height place order answer left right small lie
          (met height place order (left_of (suc height) nodes) pieces.truth_left less least
          small) first);
      taken =
          parts_blocks height place after (Open largest) (left_of (suc height) nodes) half
          made.parts
          ∙ ap (λ (xs : List Block). left ++ xs) changed.taken
          ∙ sym
          (with_right left right (block_at answer order) place
          (All-weaker (LiesIn place (place + 2 ^ (18 + height))) (LiesIn place answer)
          (λ block lies.
          lies_wider place (place + 2 ^ (18 + height)) place answer block
          (omega arith) (omega arith) lies) left lie))
          ∙ ap (λ (xs : List Block). taken_with xs (block_at answer order)) (sym before);
      tree = record {
        whole = ap (λ n. n + 1) made.long ∙ old.tree.whole;
        truthful =
            parts_truthful height after (Open largest) (left_of (suc height) nodes) half made.parts
            made.joins pieces.truth_left changed.tree.truthful;
      };
    }

-- ---- the same at a height that is counted down
pub takes_left :
    (height lower place order answer largest : ℕ) (nodes after half : List Node)
    → TakesIn height lower order nodes
    → MadeOf height lower nodes after half (right_of height nodes) largest
    → TakesFirst lower place order (left_of height nodes) half answer
    → TakesFirst height place order nodes after answer
takes_left height lower place order answer largest nodes after half old made changed =
    subst
    (λ (n : ℕ).
    TakesIn n lower order nodes
    → MadeOf n lower nodes after half (right_of n nodes) largest
    → TakesFirst lower place order (left_of n nodes) half answer
    → TakesFirst n place order nodes after answer) (sym old.is)
    (takes_left_of lower place order answer largest nodes after half) old made changed

pub takes_right :
    (height lower place middle order answer largest : ℕ) (nodes after half : List Node)
    → TakesIn height lower order nodes
    → largest_of (root_of (left_of height nodes)) < order
    → middle ≡ place + 2 ^ (18 + lower)
    → MadeOf height lower nodes after (left_of height nodes) half largest
    → TakesFirst lower middle order (right_of height nodes) half answer
    → TakesFirst height place order nodes after answer
takes_right height lower place middle order answer largest nodes after half old less middle_is made
    changed =
    subst
    (λ (n : ℕ).
    TakesIn n lower order nodes
    → largest_of (root_of (left_of n nodes)) < order
    → MadeOf n lower nodes after (left_of n nodes) half largest
    → TakesFirst lower (place + 2 ^ (18 + lower)) order (right_of n nodes) half answer
    → TakesFirst n place order nodes after answer) (sym old.is)
    (takes_right_of lower place order answer largest nodes after half) old less made
    (subst (λ (m : ℕ). TakesFirst lower m order (right_of height nodes) half answer) middle_is
    changed)
