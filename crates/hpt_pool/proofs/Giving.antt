-- What giving a block back makes of a tree.
use Rattle.std.proofs.Common.{◌≡◌, ℕ, zero, suc, ◌+◌, ◌-◌, ◌^◌, ◌<◌, ◌≤◌, List, [], ◌∷◌, ◌++◌, set, Contains, refl, sym, ap, ◌∙◌, subst, inl, inr, ◌⊎◌, arith}
use Rattle.std.proofs.lemmas.List.{length-set}
use Rattle.std.proofs.lemmas.List.Elements.{All-contains, Contains-append_cases}
use Rattle.std.proofs.lemmas.Nat.{pow_pos}
use Rattle.hpt_pool.specs.declared.tree.Node.{Node}
use Rattle.hpt_pool.specs.declared.tree.Node.TheVariants.{Taken, Open}
use Rattle.hpt_pool.specs.Pool.{Block, block_at, taken_without}
use Rattle.hpt_pool.specs.Tree.{root_of, left_of, right_of, block_or, blocks_below, hidden_blocks, largest_of, free_below, IsTruthful, IsTree}
use Rattle.hpt_pool.proofs.Halves.{LiesIn, without_left, without_right, without_alone, contained_left, contained_right}
use Rattle.hpt_pool.proofs.TreeHalves.{both_whole, double_order}
use Rattle.hpt_pool.proofs.Truth.{free_whole, halves, within}
use Rattle.hpt_pool.proofs.Parts.{parts_truthful, parts_blocks, blocks_hidden, open_blocks, some_nodes, root_truthful, root_blocks}
use Rattle.hpt_pool.proofs.Mending.{MadeOf}

-- What the call makes.
pub record GivesBack (height place given : ℕ) (nodes after : List Node) : Type 0 where
  pub given_back :
      blocks_below height place after ≡ taken_without (blocks_below height place nodes) given
  pub tree : IsTree height after

-- ---- the whole block
only_one : (block other : Block) → Contains (block ∷ []) other → other ≡ block
only_one block other (zero, inside, is) = sym is
only_one block other (suc k, inside, is) = absurd (omega arith)

-- Below a taken block nothing else is taken.
hidden_none :
    (height place : ℕ) (nodes : List Node)
    → IsTruthful height nodes
    → root_of nodes ≡ Taken
    → hidden_blocks height place nodes ≡ []
unfolding hidden_blocks
hidden_none zero place nodes truth is = refl
hidden_none (suc height) place nodes truth is =
    let left = left_of (suc height) nodes in
    let right = right_of (suc height) nodes in
    let pieces = halves height place nodes truth in
    let free : free_below (root_of nodes) (18 + suc height) ≡ 18 + suc height = ap
    (λ (root : Node). free_below root (18 + suc height)) is in
    let both = both_whole (18 + height) (largest_of (root_of left)) (largest_of (root_of right))
    (free_below (root_of nodes) (18 + suc height)) pieces.joins pieces.most_left
    pieces.most_right (omega arith) in
    ap (λ (xs : List Block). xs ++ blocks_below height (place + 2 ^ (18 + height)) right)
    (free_whole height place left pieces.truth_left both.0)
    ∙ free_whole height (place + 2 ^ (18 + height)) right pieces.truth_right both.1

-- A block as large as the tree's is not in a half.
not_hidden :
    (height place : ℕ) (nodes : List Node) (given : ℕ)
    → Contains (hidden_blocks height place nodes) (block_at given (18 + height))
    → ⊥
unfolding hidden_blocks
not_hidden zero place nodes given (k, inside, is) = omega arith
not_hidden (suc height) place nodes given here =
    at
    (Contains-append_cases (blocks_below height place (left_of (suc height) nodes))
    (blocks_below height (place + 2 ^ (18 + height)) (right_of (suc height) nodes))
    (block_at given (18 + suc height)) here) where
      too_large :
          (low : ℕ) → LiesIn low (low + 2 ^ (18 + height)) (block_at given (18 + suc height)) → ⊥
      too_large low lies =
          let double = double_order height in
          let some = pow_pos (18 + height) in
          let from : low ≤ given = lies.from_low in
          let to : given + 2 ^ (18 + suc height) ≤ low + 2 ^ (18 + height) = lies.to_high in
          omega arith

      at :
          Contains (blocks_below height place (left_of (suc height) nodes))
          (block_at given (18 + suc height))
          ⊎ Contains (blocks_below height (place + 2 ^ (18 + height)) (right_of (suc height) nodes))
          (block_at given (18 + suc height))
          → ⊥
      at (inl inside) =
          too_large place
          (All-contains (LiesIn place (place + 2 ^ (18 + height))) _
          (block_at given (18 + suc height))
          (within height place (left_of (suc height) nodes)) inside)
      at (inr inside) =
          too_large (place + 2 ^ (18 + height))
          (All-contains
          (LiesIn (place + 2 ^ (18 + height))
          (place + 2 ^ (18 + height) + 2 ^ (18 + height))) _
          (block_at given (18 + suc height))
          (within height (place + 2 ^ (18 + height)) (right_of (suc height) nodes)) inside)

-- The tree's root is a taken block, and the block that is given back begins where the tree does.
pub record HasRoot (place given : ℕ) (nodes : List Node) : Type 0 where
  pub taken : root_of nodes ≡ Taken
  pub first : given ≡ place

has_root :
    (height place given : ℕ) (nodes : List Node)
    → Contains (blocks_below height place nodes) (block_at given (18 + height))
    → HasRoot place given nodes
has_root height place given nodes here =
    at (root_of nodes) refl
    (subst (λ (xs : List Block). Contains xs (block_at given (18 + height)))
    (blocks_hidden height place nodes) here) where
      at :
          (root : Node)
          → root_of nodes ≡ root
          → Contains
          (block_or root (block_at place (18 + height)) (hidden_blocks height place nodes))
          (block_at given (18 + height))
          → HasRoot place given nodes
      at Taken is inside =
          record {
            taken = is;
            first =
                ap (λ (b : Block). b.place)
                (only_one (block_at place (18 + height)) (block_at given (18 + height))
                inside);
          }
      at (Open largest) is inside = absurd (not_hidden height place nodes given inside)

pub gives_whole :
    (height place given order : ℕ) (nodes : List Node)
    → IsTree height nodes
    → Contains (blocks_below height place nodes) (block_at given order)
    → 18 + height ≡ order
    → GivesBack height place given nodes (set nodes 0 (Open order))
gives_whole height place given order nodes tree here is =
    let full = some_nodes height nodes tree.whole in
    let root = has_root height place given nodes
    (subst (λ (n : ℕ). Contains (blocks_below height place nodes) (block_at given n)) (sym is)
    here) in
    let none = hidden_none height place nodes tree.truthful root.taken in
    let before : blocks_below height place nodes ≡ block_at place (18 + height) ∷ [] = blocks_hidden
    height place nodes ∙ ap
    (λ (top : Node).
    block_or top (block_at place (18 + height)) (hidden_blocks height place nodes)) root.taken
    in
    record {
      given_back =
          root_blocks height place nodes (Open order) full
          ∙ none
          ∙ sym (without_alone place (18 + height) given root.first)
          ∙ ap (λ (xs : List Block). taken_without xs given) (sym before);
      tree = record {
        whole = ap (λ n. n + 1) (length-set nodes 0 (Open order)) ∙ tree.whole;
        truthful =
            root_truthful height nodes (Open order) full tree.truthful
            (sym is ∙ sym (ap (λ (top : Node). free_below top (18 + height)) root.taken));
      };
    }

-- ---- a block in a half
-- The tree before, with the height of its halves: its root hides no block.
pub record GivesIn (height lower place given order : ℕ) (nodes : List Node) : Type 0 where
  pub is : height ≡ suc lower
  pub tree : IsTree height nodes
  pub largest : ℕ
  pub root_is : root_of nodes ≡ Open largest
  pub here : Contains (blocks_below height place nodes) (block_at given order)

-- A leaf hides no block.
some_height :
    (height place : ℕ) (nodes : List Node) (block : Block)
    → Contains (hidden_blocks height place nodes) block
    → 0 < height
unfolding hidden_blocks
some_height zero place nodes block (k, inside, is) = absurd (omega arith)
some_height (suc height) place nodes block here = omega arith

pub gives_in :
    (height place given order : ℕ) (nodes : List Node)
    → IsTree height nodes
    → Contains (blocks_below height place nodes) (block_at given order)
    → (18 + height ≡ order → ⊥)
    → GivesIn height (height - 1) place given order nodes
gives_in height place given order nodes tree here other =
    at (root_of nodes) refl
    (subst (λ (xs : List Block). Contains xs (block_at given order))
    (blocks_hidden height place nodes) here) where
      at :
          (root : Node)
          → root_of nodes ≡ root
          → Contains
          (block_or root (block_at place (18 + height)) (hidden_blocks height place nodes))
          (block_at given order)
          → GivesIn height (height - 1) place given order nodes
      at Taken is inside =
          absurd
          (other
          (sym
          (ap (λ (b : Block). b.order)
          (only_one (block_at place (18 + height)) (block_at given order)
          inside))))
      at (Open largest) is inside =
          let some = some_height height place nodes (block_at given order) inside in
          record { is = omega arith; tree = tree; largest = largest; root_is = is; here = here }

-- Which half has it.
pub held_left :
    (height lower place given order : ℕ) (nodes : List Node)
    → GivesIn height lower place given order nodes
    → given < place + 2 ^ (18 + lower)
    → Contains (blocks_below lower place (left_of height nodes)) (block_at given order)
held_left height lower place given order nodes old below =
    subst
    (λ (n : ℕ).
    GivesIn n lower place given order nodes
    → Contains (blocks_below lower place (left_of n nodes)) (block_at given order))
    (sym old.is) of_next old where
      of_next :
          GivesIn (suc lower) lower place given order nodes
          → Contains (blocks_below lower place (left_of (suc lower) nodes)) (block_at given order)
      of_next before =
          contained_left (blocks_below lower place (left_of (suc lower) nodes))
          (blocks_below lower (place + 2 ^ (18 + lower)) (right_of (suc lower) nodes))
          (block_at given order) (place + 2 ^ (18 + lower))
          (place + 2 ^ (18 + lower) + 2 ^ (18 + lower)) below
          (within lower (place + 2 ^ (18 + lower)) (right_of (suc lower) nodes))
          (subst (λ (xs : List Block). Contains xs (block_at given order))
          (open_blocks lower place nodes before.largest before.root_is) before.here)

pub held_right :
    (height lower place given order : ℕ) (nodes : List Node)
    → GivesIn height lower place given order nodes
    → place + 2 ^ (18 + lower) ≤ given
    → Contains (blocks_below lower (place + 2 ^ (18 + lower)) (right_of height nodes))
    (block_at given order)
held_right height lower place given order nodes old above =
    subst
    (λ (n : ℕ).
    GivesIn n lower place given order nodes
    → Contains (blocks_below lower (place + 2 ^ (18 + lower)) (right_of n nodes))
    (block_at given order)) (sym old.is) of_next old where
      of_next :
          GivesIn (suc lower) lower place given order nodes
          → Contains (blocks_below lower (place + 2 ^ (18 + lower)) (right_of (suc lower) nodes))
          (block_at given order)
      of_next before =
          contained_right (blocks_below lower place (left_of (suc lower) nodes))
          (blocks_below lower (place + 2 ^ (18 + lower)) (right_of (suc lower) nodes))
          (block_at given order) place (place + 2 ^ (18 + lower)) above
          (within lower place (left_of (suc lower) nodes))
          (subst (λ (xs : List Block). Contains xs (block_at given order))
          (open_blocks lower place nodes before.largest before.root_is) before.here)

gives_left_of :
    (height place given order largest : ℕ) (nodes after half : List Node)
    → GivesIn (suc height) height place given order nodes
    → given < place + 2 ^ (18 + height)
    → MadeOf (suc height) height nodes after half (right_of (suc height) nodes) largest
    → GivesBack height place given (left_of (suc height) nodes) half
    → GivesBack (suc height) place given nodes after
gives_left_of height place given order largest nodes after half old below made changed =
    let pieces = halves height place nodes old.tree.truthful in
    let left = blocks_below height place (left_of (suc height) nodes) in
    let right = blocks_below height (place + 2 ^ (18 + height)) (right_of (suc height) nodes) in
    record {
      given_back =
          parts_blocks height place after (Open largest) half (right_of (suc height) nodes)
          made.parts
          ∙ ap (λ (xs : List Block). xs ++ right) changed.given_back
          ∙ sym
          (without_left left right given (place + 2 ^ (18 + height))
          (place + 2 ^ (18 + height) + 2 ^ (18 + height)) below
          (within height (place + 2 ^ (18 + height)) (right_of (suc height) nodes)))
          ∙ ap (λ (xs : List Block). taken_without xs given)
          (sym (open_blocks height place nodes old.largest old.root_is));
      tree = record {
        whole = ap (λ n. n + 1) made.long ∙ old.tree.whole;
        truthful =
            parts_truthful height after (Open largest) half (right_of (suc height) nodes) made.parts
            made.joins changed.tree.truthful pieces.truth_right;
      };
    }

gives_right_of :
    (height place given order largest : ℕ) (nodes after half : List Node)
    → GivesIn (suc height) height place given order nodes
    → place + 2 ^ (18 + height) ≤ given
    → MadeOf (suc height) height nodes after (left_of (suc height) nodes) half largest
    → GivesBack height (place + 2 ^ (18 + height)) given (right_of (suc height) nodes) half
    → GivesBack (suc height) place given nodes after
gives_right_of height place given order largest nodes after half old above made changed =
    let pieces = halves height place nodes old.tree.truthful in
    let left = blocks_below height place (left_of (suc height) nodes) in
    let right = blocks_below height (place + 2 ^ (18 + height)) (right_of (suc height) nodes) in
    record {
      given_back =
          parts_blocks height place after (Open largest) (left_of (suc height) nodes) half
          made.parts
          ∙ ap (λ (xs : List Block). left ++ xs) changed.given_back
          ∙ sym
          (without_right left right given place (place + 2 ^ (18 + height)) above
          (within height place (left_of (suc height) nodes)))
          ∙ ap (λ (xs : List Block). taken_without xs given)
          (sym (open_blocks height place nodes old.largest old.root_is));
      tree = record {
        whole = ap (λ n. n + 1) made.long ∙ old.tree.whole;
        truthful =
            parts_truthful height after (Open largest) (left_of (suc height) nodes) half made.parts
            made.joins pieces.truth_left changed.tree.truthful;
      };
    }

-- ---- the same at a height that is counted down
pub gives_left :
    (height lower place given order largest : ℕ) (nodes after half : List Node)
    → GivesIn height lower place given order nodes
    → given < place + 2 ^ (18 + lower)
    → MadeOf height lower nodes after half (right_of height nodes) largest
    → GivesBack lower place given (left_of height nodes) half
    → GivesBack height place given nodes after
gives_left height lower place given order largest nodes after half old below made changed =
    subst
    (λ (n : ℕ).
    GivesIn n lower place given order nodes
    → MadeOf n lower nodes after half (right_of n nodes) largest
    → GivesBack lower place given (left_of n nodes) half
    → GivesBack n place given nodes after) (sym old.is)
    (λ before result part.
    gives_left_of lower place given order largest nodes after half before below result part) old
    made changed

pub gives_right :
    (height lower place middle given order largest : ℕ) (nodes after half : List Node)
    → GivesIn height lower place given order nodes
    → middle ≡ place + 2 ^ (18 + lower)
    → middle ≤ given
    → MadeOf height lower nodes after (left_of height nodes) half largest
    → GivesBack lower middle given (right_of height nodes) half
    → GivesBack height place given nodes after
gives_right height lower place middle given order largest nodes after half old middle_is above made
    changed =
    subst
    (λ (n : ℕ).
    GivesIn n lower place given order nodes
    → MadeOf n lower nodes after (left_of n nodes) half largest
    → GivesBack lower (place + 2 ^ (18 + lower)) given (right_of n nodes) half
    → GivesBack n place given nodes after) (sym old.is)
    (λ before result part.
    gives_right_of lower place given order largest nodes after half before (omega arith) result
    part) old made
    (subst (λ (m : ℕ). GivesBack lower m given (right_of height nodes) half) middle_is changed)
