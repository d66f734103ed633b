-- The root and the two halves of a list of nodes, and what a write leaves of them.
use Rattle.std.proofs.Common.{◌≡◌, ℕ, zero, suc, ◌+◌, ◌-◌, ◌^◌, ◌<◌, ◌≤◌, List, [], ◌∷◌, ◌++◌, length, take, drop, set, refl, sym, ap, ◌∙◌, arith}
use Rattle.std.proofs.lemmas.Nat.{pow_pos, pow-add}
use Rattle.std.proofs.lemmas.List.{length-take-le, length-drop, length-append, drop-set-lt, get_or-set_same}
use Rattle.std.proofs.lemmas.Slice.{between_to_end, between_is, between-put_mid, drop-put_mid, take-put_mid_below}
use borrow.Rule.Slice.PartMut.{put_mid}
use Rattle.hpt_pool.specs.declared.tree.Node.{Node}
use Rattle.hpt_pool.specs.declared.tree.Node.TheVariants.{Taken}
use Rattle.hpt_pool.specs.Tree.{root_of, left_of, right_of}

-- The tree of this height with these nodes has this root, this left half and this right half.
pub record HasParts (height : ℕ) (nodes : List Node) (root : Node) (left right : List Node) :
    Type 0 where
  pub root_is : root_of nodes ≡ root
  pub left_is : left_of height nodes ≡ left
  pub right_is : right_of height nodes ≡ right

pub parts_of :
    (height : ℕ) (nodes : List Node)
    → HasParts height nodes (root_of nodes) (left_of height nodes) (right_of height nodes)
parts_of height nodes = record { root_is = refl; left_is = refl; right_is = refl }

-- ---- how many nodes there are
-- A tree that is no leaf has two halves of 2 ^ height - 1 nodes.
pub record IsWhole (height : ℕ) (nodes : List Node) : Type 0 where
  pub some : 0 < 2 ^ height
  pub whole : length nodes + 1 ≡ 2 ^ height + 2 ^ height

pub twice : (height : ℕ) → 2 ^ (height + 1) ≡ 2 ^ height + 2 ^ height
twice height = let e = pow-add 2 height 1 in omega arith

pub is_whole :
    (height : ℕ) (nodes : List Node) → length nodes + 1 ≡ 2 ^ (height + 1) → IsWhole height nodes
is_whole height nodes long =
    let double = twice height in record { some = pow_pos height; whole = omega arith }

pub right_drop : (height : ℕ) (nodes : List Node) → right_of height nodes ≡ drop (2 ^ height) nodes
right_drop height nodes = between_to_end nodes (2 ^ height) (length nodes) (omega arith)

pub length-left :
    (height : ℕ) (nodes : List Node)
    → IsWhole height nodes
    → length (left_of height nodes) + 1 ≡ 2 ^ height
length-left height nodes whole =
    let some = whole.some in
    let long = whole.whole in
    let rest = length-drop 1 nodes in
    let taken = length-take-le (2 ^ height - 1) (drop 1 nodes) (omega arith) in
    omega arith

pub length-right :
    (height : ℕ) (nodes : List Node)
    → IsWhole height nodes
    → length (right_of height nodes) + 1 ≡ 2 ^ height
length-right height nodes whole =
    let some = whole.some in
    let long = whole.whole in
    let rest = length-drop (2 ^ height) nodes in
    let is = ap (λ (xs : List Node). length xs) (right_drop height nodes) in
    omega arith

-- ---- a write at the root
pub root_set :
    (height : ℕ) (nodes : List Node) (root other : Node) (left right : List Node)
    → 0 < length nodes
    → HasParts height nodes root left right
    → HasParts height (set nodes 0 other) other left right
root_set height nodes root other left right some parts = record {
  root_is = get_or-set_same nodes 0 other Taken some;
  left_is =
      ap (λ (xs : List Node). take (2 ^ height - 1) xs) (drop-set-lt 1 nodes 0 other (omega arith))
      ∙ parts.left_is;
  right_is =
      right_drop height (set nodes 0 other)
      ∙ drop-set-lt (2 ^ height) nodes 0 other (pow_pos height)
      ∙ sym (right_drop height nodes)
      ∙ parts.right_is;
}

-- ---- a write to a half
root-put_mid :
    (first count : ℕ) (nodes half : List Node)
    → 0 < first
    → 0 < length nodes
    → root_of (put_mid first count nodes half) ≡ root_of nodes
root-put_mid zero count nodes half some full = absurd (omega arith)
root-put_mid (suc first) count [] half some full = absurd (omega arith)
root-put_mid (suc first) count (node ∷ nodes) half some full = refl

pub left_put :
    (height : ℕ) (nodes half : List Node) (root : Node) (left right : List Node)
    → IsWhole height nodes
    → length half ≡ 2 ^ height - 1
    → HasParts height nodes root left right
    → HasParts height (put_mid 1 (2 ^ height - 1) nodes half) root half right
left_put height nodes half root left right whole long parts =
    let some = whole.some in
    let full = whole.whole in
    let after : List Node = put_mid 1 (2 ^ height - 1) nodes half in
    record {
      root_is =
          root-put_mid 1 (2 ^ height - 1) nodes half (omega arith) (omega arith) ∙ parts.root_is;
      left_is = between-put_mid 1 (2 ^ height - 1) nodes half (2 ^ height) (omega arith) long;
      right_is =
          right_drop height after
          ∙ drop-put_mid 1 (2 ^ height - 1) nodes half (2 ^ height) (omega arith) (omega arith) long
          ∙ sym (right_drop height nodes)
          ∙ parts.right_is;
    }

pub length-put_mid :
    (first count : ℕ) (nodes half : List Node)
    → first + count ≤ length nodes
    → length half ≡ count
    → length (put_mid first count nodes half) ≡ length nodes
length-put_mid first count nodes half inside long =
    let rest = drop count (drop first nodes) in
    let whole = length-append (take first nodes) (half ++ rest) in
    let end = length-append half rest in
    let front = length-take-le first nodes (omega arith) in
    let outer = length-drop first nodes in
    let inner = length-drop count (drop first nodes) in
    omega arith

pub right_put :
    (height : ℕ) (nodes half : List Node) (root : Node) (left right : List Node)
    → IsWhole height nodes
    → length half ≡ length nodes - 2 ^ height
    → HasParts height nodes root left right
    → HasParts height (put_mid (2 ^ height) (length nodes - 2 ^ height) nodes half) root left half
right_put height nodes half root left right whole long parts =
    let some = whole.some in
    let full = whole.whole in
    let after : List Node = put_mid (2 ^ height) (length nodes - 2 ^ height) nodes half in
    let same : length after ≡ length nodes = length-put_mid (2 ^ height) (length nodes - 2 ^ height)
    nodes half (omega arith) long in
    record {
      root_is =
          root-put_mid (2 ^ height) (length nodes - 2 ^ height) nodes half some (omega arith)
          ∙ parts.root_is;
      left_is =
          between_is after 1 (2 ^ height)
          ∙ ap (λ (xs : List Node). drop 1 xs)
          (take-put_mid_below (2 ^ height) (length nodes - 2 ^ height) nodes half (2 ^ height)
          (omega arith) (omega arith))
          ∙ sym (between_is nodes 1 (2 ^ height))
          ∙ parts.left_is;
      right_is =
          between-put_mid (2 ^ height) (length nodes - 2 ^ height) nodes half (length after)
          (omega arith) (omega arith);
    }
