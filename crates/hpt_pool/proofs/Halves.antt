-- The blocks of two halves, one after the other: where a block overlaps one of them, and what
-- taking and giving change.
use Rattle.std.proofs.Common.{◌≡◌, ℕ, ◌+◌, ◌^◌, ◌<◌, ◌≤◌, ◌==◌, ◌||◌, get_or, Bool, true, false, not, List, [], ◌∷◌, ◌++◌, filter, All, Contains, refl, sym, ap, ◌∙◌, append_assoc, inl, inr, ◌⊎◌, arith}
use Rattle.std.proofs.lemmas.Bool.{or_parts}
use Rattle.std.proofs.lemmas.Bool.Decides.{nat_tests}
use Rattle.std.proofs.lemmas.Nat.{pow_pos}
use Rattle.std.proofs.lemmas.List.{append-nil}
use Rattle.std.proofs.lemmas.List.Folds.{list_any-append, list_any_none}
use Rattle.std.proofs.lemmas.List.Elements.{All-contains, Contains-append_cases, filter-append}
use Rattle.hpt_pool.specs.Pool.{Block, block_at, end_of, overlap, begins_below, taken_with, taken_without}
use Rattle.hpt_pool.specs.Free.{is_met}
use Rattle.basics.proofs.Lists.{filter_all, filter_none}
use Rattle.hpt_pool.proofs.Lists.{list_any-weaker}

-- A block begins at least here and ends at most there.
pub record LiesIn (low high : ℕ) (block : Block) : Type 0 where
  pub from_low : low ≤ block.place
  pub to_high : end_of block ≤ high

pub lies_wider :
    (low high lower higher : ℕ) (block : Block)
    → lower ≤ low
    → high ≤ higher
    → LiesIn low high block
    → LiesIn lower higher block
lies_wider low high lower higher block below above lies =
    let from = lies.from_low in
    let to = lies.to_high in
    record { from_low = omega arith; to_high = omega arith }

-- ---- whether a block overlaps one of them
pub met_left :
    (left right : List Block) (order place : ℕ)
    → is_met left order place ≡ true
    → is_met (left ++ right) order place ≡ true
met_left left right order place met =
    list_any-append (overlap (block_at place order)) left right
    ∙ ap (λ b. b || is_met right order place) met

pub met_right :
    (left right : List Block) (order place : ℕ)
    → is_met right order place ≡ true
    → is_met (left ++ right) order place ≡ true
met_right left right order place met =
    list_any-append (overlap (block_at place order)) left right
    ∙ ap (λ b. is_met left order place || b) met
    ∙ or_true (is_met left order place) where
      or_true : (b : Bool) → (b || true) ≡ true
      or_true true = refl
      or_true false = refl

pub unmet :
    (left right : List Block) (order place : ℕ)
    → is_met left order place ≡ false
    → is_met right order place ≡ false
    → is_met (left ++ right) order place ≡ false
unmet left right order place free_left free_right =
    list_any-append (overlap (block_at place order)) left right
    ∙ ap (λ b. b || is_met right order place) free_left
    ∙ free_right

pub unmet_parts :
    (left right : List Block) (order place : ℕ)
    → is_met (left ++ right) order place ≡ false
    → (is_met left order place ≡ false) × (is_met right order place ≡ false)
unmet_parts left right order place free =
    or_parts (is_met left order place) (is_met right order place)
    (sym (list_any-append (overlap (block_at place order)) left right) ∙ free)

-- A wider block overlaps what a block in it overlaps.
pub met_wider :
    (blocks : List Block) (order at_place wider place : ℕ)
    → place ≤ at_place
    → at_place + 2 ^ order ≤ place + 2 ^ wider
    → is_met blocks order at_place ≡ true
    → is_met blocks wider place ≡ true
met_wider blocks order at_place wider place low high met =
    list_any-weaker (overlap (block_at at_place order)) (overlap (block_at place wider)) blocks
    (λ k d inside. also (get_or blocks k d)) met where
      also :
          (other : Block)
          → overlap (block_at at_place order) other ≡ true
          → overlap (block_at place wider) other ≡ true
      also other meets = grind (arith, nat_tests, meets)

-- A block that ends where the others begin overlaps none of them.
pub unmet_above :
    (blocks : List Block) (order place low high : ℕ)
    → place + 2 ^ order ≤ low
    → All (LiesIn low high) blocks
    → is_met blocks order place ≡ false
unmet_above blocks order place low high below lie =
    list_any_none (overlap (block_at place order)) blocks
    (λ k d inside. apart (get_or blocks k d) (lie k d inside)) where
      apart : (other : Block) → LiesIn low high other → overlap (block_at place order) other ≡ false
      apart other lies = let from = lies.from_low in grind (arith, nat_tests)

pub unmet_below :
    (blocks : List Block) (order place low high : ℕ)
    → high ≤ place
    → All (LiesIn low high) blocks
    → is_met blocks order place ≡ false
unmet_below blocks order place low high above lie =
    list_any_none (overlap (block_at place order)) blocks
    (λ k d inside. apart (get_or blocks k d) (lie k d inside)) where
      apart : (other : Block) → LiesIn low high other → overlap (block_at place order) other ≡ false
      apart other lies = let to = lies.to_high in grind (arith, nat_tests)

-- ---- a block that is taken in a half
pub with_left :
    (left right : List Block) (block : Block) (high : ℕ)
    → All (LiesIn (end_of block) high) right
    → taken_with (left ++ right) block ≡ taken_with left block ++ right
unfolding taken_with
with_left left right block high above =
    let below = begins_below block in
    let others : Block → Bool = λ other. not (begins_below block other) in
    let none : filter below right ≡ [] = filter_none below right
    (λ k d inside. not_below (get_or right k d) (above k d inside)) in
    let rest : filter others right ≡ right = filter_all others right
    (λ k d inside. ap not (not_below (get_or right k d) (above k d inside))) in
    ap (λ (xs : List Block). xs ++ block ∷ filter others (left ++ right))
    (filter-append below left right
    ∙ ap (λ (xs : List Block). filter below left ++ xs) none
    ∙ append-nil (filter below left))
    ∙ ap (λ (xs : List Block). filter below left ++ block ∷ xs)
    (filter-append others left right ∙ ap (λ (xs : List Block). filter others left ++ xs) rest)
    ∙ sym (append_assoc (filter below left) (block ∷ filter others left) right) where
      not_below :
          (other : Block) → LiesIn (end_of block) high other → begins_below block other ≡ false
      not_below other lies =
          let from = lies.from_low in let some = pow_pos block.order in grind (arith, nat_tests)

pub with_right :
    (left right : List Block) (block : Block) (low : ℕ)
    → All (LiesIn low block.place) left
    → taken_with (left ++ right) block ≡ left ++ taken_with right block
unfolding taken_with
with_right left right block low lower =
    let below = begins_below block in
    let others : Block → Bool = λ other. not (begins_below block other) in
    let all : filter below left ≡ left = filter_all below left
    (λ k d inside. is_below (get_or left k d) (lower k d inside)) in
    let none : filter others left ≡ [] = filter_none others left
    (λ k d inside. ap not (is_below (get_or left k d) (lower k d inside))) in
    ap (λ (xs : List Block). xs ++ block ∷ filter others (left ++ right))
    (filter-append below left right ∙ ap (λ (xs : List Block). xs ++ filter below right) all)
    ∙ ap (λ (xs : List Block). (left ++ filter below right) ++ block ∷ xs)
    (filter-append others left right ∙ ap (λ (xs : List Block). xs ++ filter others right) none)
    ∙ append_assoc left (filter below right) (block ∷ filter others right) where
      is_below : (other : Block) → LiesIn low block.place other → begins_below block other ≡ true
      is_below other lies =
          let to = lies.to_high in let some = pow_pos other.order in grind (arith, nat_tests)

pub with_alone : (block : Block) → taken_with [] block ≡ block ∷ []
unfolding taken_with
with_alone block = refl

-- ---- a block that is given back in a half
pub without_left :
    (left right : List Block) (given low high : ℕ)
    → given < low
    → All (LiesIn low high) right
    → taken_without (left ++ right) given ≡ taken_without left given ++ right
unfolding taken_without
without_left left right given low high below lie =
    let stays : Block → Bool = λ block. not (block.place == given) in
    filter-append stays left right
    ∙ ap (λ (xs : List Block). filter stays left ++ xs)
    (filter_all stays right (λ k d inside. kept (get_or right k d) (lie k d inside))) where
      kept : (other : Block) → LiesIn low high other → not (other.place == given) ≡ true
      kept other lies = let from = lies.from_low in grind (arith, nat_tests)

pub without_right :
    (left right : List Block) (given low high : ℕ)
    → high ≤ given
    → All (LiesIn low high) left
    → taken_without (left ++ right) given ≡ left ++ taken_without right given
unfolding taken_without
without_right left right given low high above lie =
    let stays : Block → Bool = λ block. not (block.place == given) in
    filter-append stays left right
    ∙ ap (λ (xs : List Block). xs ++ filter stays right)
    (filter_all stays left (λ k d inside. kept (get_or left k d) (lie k d inside))) where
      kept : (other : Block) → LiesIn low high other → not (other.place == given) ≡ true
      kept other lies =
          let to = lies.to_high in let some = pow_pos other.order in grind (arith, nat_tests)

pub without_alone :
    (place order given : ℕ) → given ≡ place → taken_without (block_at place order ∷ []) given ≡ []
unfolding taken_without
without_alone place order given here = let same :
    (place == given) ≡ true = grind (arith, nat_tests) in rw same refl

-- ---- which half has a block
pub contained_left :
    (left right : List Block) (block : Block) (low high : ℕ)
    → block.place < low
    → All (LiesIn low high) right
    → Contains (left ++ right) block
    → Contains left block
contained_left left right block low high below lie here =
    at (Contains-append_cases left right block here) where
      at : Contains left block ⊎ Contains right block → Contains left block
      at (inl inside) = inside
      at (inr inside) =
          let lies = All-contains (LiesIn low high) right block lie inside in
          let from : low ≤ block.place = lies.from_low in
          absurd (omega arith)

pub contained_right :
    (left right : List Block) (block : Block) (low high : ℕ)
    → high ≤ block.place
    → All (LiesIn low high) left
    → Contains (left ++ right) block
    → Contains right block
contained_right left right block low high above lie here =
    at (Contains-append_cases left right block here) where
      at : Contains left block ⊎ Contains right block → Contains right block
      at (inr inside) = inside
      at (inl inside) =
          let lies = All-contains (LiesIn low high) left block lie inside in
          let to : block.place + 2 ^ block.order ≤ high = lies.to_high in
          let some = pow_pos block.order in
          absurd (omega arith)
