-- A tree of which one half or both have changed and the root says what they say.
use Rattle.std.proofs.Common.{◌≡◌, ℕ, ◌+◌, ◌-◌, ◌^◌, List, length, set, sym, ◌∙◌, subst, arith}
use Rattle.std.proofs.lemmas.List.{length-set}
use borrow.Rule.Slice.PartMut.{put_mid}
use Rattle.hpt_pool.specs.declared.tree.Node.{Node}
use Rattle.hpt_pool.specs.declared.tree.Node.TheVariants.{Open}
use Rattle.hpt_pool.specs.Tree.{root_of, left_of, right_of, largest_of, JoinsHalves}
use Rattle.hpt_pool.proofs.Shape.{HasParts, parts_of, root_set, IsWhole, is_whole, left_put, right_put, length-put_mid}

-- The tree after, by its halves, of which one has changed.
pub record MadeOf (height lower : ℕ) (nodes after left right : List Node) (largest : ℕ) :
    Type 0 where
  pub parts : HasParts height after (Open largest) left right
  pub joins :
      JoinsHalves (18 + lower) (largest_of (root_of left)) (largest_of (root_of right)) largest
  pub long : length after ≡ length nodes

-- ---- two changed halves under a new root
pub both_put :
    (height count : ℕ) (nodes left right : List Node) (top : Node)
    → count ≡ 2 ^ height
    → length nodes + 1 ≡ 2 ^ (height + 1)
    → length left ≡ count - 1
    → length right + 1 ≡ count
    → HasParts height
    (put_mid count (length (put_mid 1 (count - 1) (set nodes 0 top) left) - count)
    (put_mid 1 (count - 1) (set nodes 0 top) left) right) top left right
    ×
    (length
    (put_mid count (length (put_mid 1 (count - 1) (set nodes 0 top) left) - count)
    (put_mid 1 (count - 1) (set nodes 0 top) left) right)
    ≡ length nodes)
both_put height count nodes left right top count_is whole long_left long_right =
    subst
    (λ (n : ℕ).
    HasParts height
    (put_mid n (length (put_mid 1 (n - 1) (set nodes 0 top) left) - n)
    (put_mid 1 (n - 1) (set nodes 0 top) left) right) top left right
    ×
    (length
    (put_mid n (length (put_mid 1 (n - 1) (set nodes 0 top) left) - n)
    (put_mid 1 (n - 1) (set nodes 0 top) left) right)
    ≡ length nodes)) (sym count_is)
    (of_power (omega arith) (omega arith)) where
      written : List Node
      written = set nodes 0 top

      middle : List Node
      middle = put_mid 1 (2 ^ height - 1) written left

      of_power :
          length left ≡ 2 ^ height - 1
          → length right + 1 ≡ 2 ^ height
          → HasParts height (put_mid (2 ^ height) (length middle - 2 ^ height) middle right) top
          left right
          × (length (put_mid (2 ^ height) (length middle - 2 ^ height) middle right) ≡ length nodes)
      of_power of_left of_right =
          let counts = is_whole height nodes whole in
          let some = counts.some in
          let twice = counts.whole in
          let set_long : length written ≡ length nodes = length-set nodes 0 top in
          let counts_written : IsWhole height written = is_whole height written (omega arith) in
          let middle_long : length middle ≡ length written = length-put_mid 1 (2 ^ height - 1)
          written left (omega arith) of_left in
          let counts_middle : IsWhole height middle = is_whole height middle (omega arith) in
          let root = root_set height nodes (root_of nodes) top (left_of height nodes)
          (right_of height nodes) (omega arith) (parts_of height nodes) in
          let half = left_put height written left top (left_of height nodes) (right_of height nodes)
          counts_written of_left root in (
            right_put height middle right top left (right_of height nodes) counts_middle
                (omega arith) half,
            length-put_mid (2 ^ height) (length middle - 2 ^ height) middle right (omega arith)
                (omega arith)
                ∙ middle_long
                ∙ set_long,
          )
