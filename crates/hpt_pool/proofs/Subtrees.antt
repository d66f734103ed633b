-- The part of a list of nodes that is the tree below one of them, and what is left of it where
-- others are written.
use Rattle.std.proofs.Common.{◌≡◌, ℕ, suc, ◌+◌, ◌-◌, ◌^◌, ◌<◌, ◌≤◌, List, length, take, drop, get_or, set, refl, sym, ap, ◌∙◌, arith}
use Rattle.std.proofs.lemmas.Nat.{pow_pos}
use Rattle.std.proofs.lemmas.List.{length-set, length-take-le, length-drop, get_or-take, get_or-drop, get_or-set_same, take_all, take-take, take-set-le, drop-drop, drop-set-lt, drop-set-add, drop-take}
use Rattle.std.proofs.Math.Seq.{take-set-lt}
use Rattle.hpt_pool.specs.declared.tree.Node.{Node}
use Rattle.hpt_pool.specs.declared.tree.Node.TheVariants.{Taken, Open}
use Rattle.hpt_pool.specs.Tree.{root_of, left_of, right_of, largest_of}
use Rattle.hpt_pool.specs.Way.{node_at, JoinsAt}
use Rattle.hpt_pool.proofs.TreeHalves.{joins_same}
use Rattle.hpt_pool.proofs.Shape.{twice, right_drop}
use Rattle.hpt_pool.proofs.Mending.{MadeOf}

-- The tree of this height whose root stands at this index.
abbrev pub tree_at : ℕ → ℕ → List Node → List Node
tree_at height index nodes = take (2 ^ (height + 1) - 1) (drop index nodes)

-- The index after its last node.
abbrev pub end_at : ℕ → ℕ → ℕ
end_at height index = index + (2 ^ (height + 1) - 1)

-- The sizes of a tree and of its halves.
pub record HasSizes (height : ℕ) : Type 0 where
  pub some : 0 < 2 ^ height
  pub half : 2 ^ (height + 1) ≡ 2 ^ height + 2 ^ height
  pub next : 2 ^ suc height ≡ 2 ^ (height + 1)
  pub whole : 2 ^ (suc height + 1) ≡ 2 ^ (height + 1) + 2 ^ (height + 1)

pub sizes : (height : ℕ) → HasSizes height
sizes height =
    let next : 2 ^ suc height ≡ 2 ^ (height + 1) = ap (λ n. 2 ^ n)
    (let e : suc height ≡ height + 1 = omega arith in e) in
    let whole = twice (suc height) in
    record { some = pow_pos height; half = twice height; next = next; whole = omega arith }

-- ---- its length, its root and its halves
pub tree_whole :
    (height : ℕ) (nodes : List Node)
    → length nodes + 1 ≡ 2 ^ (height + 1)
    → tree_at height 0 nodes ≡ nodes
tree_whole height nodes long = take_all (2 ^ (height + 1) - 1) nodes (omega arith)

pub length-tree :
    (height index : ℕ) (nodes : List Node)
    → end_at height index ≤ length nodes
    → length (tree_at height index nodes) + 1 ≡ 2 ^ (height + 1)
length-tree height index nodes inside =
    let some = pow_pos (height + 1) in
    let rest = length-drop index nodes in
    let taken = length-take-le (2 ^ (height + 1) - 1) (drop index nodes) (omega arith) in
    omega arith

pub root-tree :
    (height index : ℕ) (nodes : List Node)
    → root_of (tree_at height index nodes) ≡ node_at nodes index
root-tree height index nodes =
    get_or-take (2 ^ (height + 1) - 1) (drop index nodes) 0 Taken
    (let size = sizes height in let some = size.some in let half = size.half in omega arith)
    ∙ get_or-drop index nodes 0 Taken
    ∙ ap (λ n. get_or nodes n Taken) (let e : index + 0 ≡ index = omega arith in e)

-- The first nodes of a list from which some were dropped.
part_drop :
    (skip size count index : ℕ) (nodes : List Node)
    → skip + count ≤ size
    → take count (drop skip (take size (drop index nodes))) ≡ take count (drop (index + skip) nodes)
part_drop skip size count index nodes inside =
    ap (λ n. take count (drop skip (take n (drop index nodes))))
    (let e : size ≡ skip + (size - skip) = omega arith in e)
    ∙ ap (λ (xs : List Node). take count xs) (drop-take skip (size - skip) (drop index nodes))
    ∙ take-take count (size - skip) (drop skip (drop index nodes)) (omega arith)
    ∙ ap (λ (xs : List Node). take count xs) (drop-drop skip index nodes)

pub left-tree :
    (height index : ℕ) (nodes : List Node)
    → left_of (suc height) (tree_at (suc height) index nodes) ≡ tree_at height (index + 1) nodes
left-tree height index nodes =
    let size = sizes height in
    let next = size.next in
    let whole = size.whole in
    part_drop 1 (2 ^ (suc height + 1) - 1) (2 ^ suc height - 1) index nodes (omega arith)
    ∙ ap (λ n. take (n - 1) (drop (index + 1) nodes)) next

pub right-tree :
    (height index : ℕ) (nodes : List Node)
    → right_of (suc height) (tree_at (suc height) index nodes)
    ≡ tree_at height (index + 2 ^ suc height) nodes
right-tree height index nodes =
    let size = sizes height in
    let next = size.next in
    let whole = size.whole in
    let some = pow_pos (height + 1) in
    right_drop (suc height) (tree_at (suc height) index nodes)
    ∙ ap (λ n. drop (2 ^ suc height) (take n (drop index nodes)))
    (let e : 2 ^ (suc height + 1) - 1 ≡ 2 ^ suc height + (2 ^ (height + 1) - 1) = omega arith in
    e)
    ∙ drop-take (2 ^ suc height) (2 ^ (height + 1) - 1) (drop index nodes)
    ∙ ap (λ (xs : List Node). take (2 ^ (height + 1) - 1) xs)
    (drop-drop (2 ^ suc height) index nodes)

-- ---- writes in a part of the list
-- Before the first index and from the end on nothing changes.
pub record ChangesWithin (first end : ℕ) (nodes now : List Node) : Type 0 where
  pub long : length now ≡ length nodes
  pub before : take first now ≡ take first nodes
  pub behind : drop end now ≡ drop end nodes

-- The same of a larger part, in which a further node is written.
pub changes_wider :
    (low high first end index : ℕ) (nodes now : List Node) (node : Node)
    → first ≤ low
    → high ≤ end
    → first ≤ index
    → index < end
    → ChangesWithin low high nodes now
    → ChangesWithin first end nodes (set now index node)
changes_wider low high first end index nodes now node from to at_least below changes = record {
  long = length-set now index node ∙ changes.long;
  before =
      take-set-le first now index node at_least
      ∙ sym (take-take first low now from)
      ∙ ap (λ (xs : List Node). take first xs) changes.before
      ∙ take-take first low nodes from;
  behind =
      drop-set-lt end now index node below
      ∙ ap (λ n. drop n now) (let e : end ≡ high + (end - high) = omega arith in e)
      ∙ sym (drop-drop (end - high) high now)
      ∙ ap (λ (xs : List Node). drop (end - high) xs) changes.behind
      ∙ drop-drop (end - high) high nodes
      ∙ ap (λ n. drop n nodes) (let e : high + (end - high) ≡ end = omega arith in e);
}

pub changes_one :
    (first end index : ℕ) (nodes : List Node) (node : Node)
    → first ≤ index
    → index < end
    → ChangesWithin first end nodes (set nodes index node)
changes_one first end index nodes node at_least below =
    record {
      long = length-set nodes index node;
      before = take-set-le first nodes index node at_least;
      behind = drop-set-lt end nodes index node below;
    }

-- A tree that ends where they begin, and one that begins where they end.
tree_before :
    (height index end : ℕ) (nodes now : List Node)
    → ChangesWithin (end_at height index) end nodes now
    → tree_at height index now ≡ tree_at height index nodes
tree_before height index end nodes now changes =
    sym (drop-take index (2 ^ (height + 1) - 1) now)
    ∙ ap (λ (xs : List Node). drop index xs) changes.before
    ∙ drop-take index (2 ^ (height + 1) - 1) nodes

tree_behind :
    (height index first : ℕ) (nodes now : List Node)
    → ChangesWithin first index nodes now
    → tree_at height index now ≡ tree_at height index nodes
tree_behind height index first nodes now changes =
    ap (λ (xs : List Node). take (2 ^ (height + 1) - 1) xs) changes.behind

-- A write at an index before the tree, and at its root.
tree_set :
    (height index at : ℕ) (nodes : List Node) (node : Node)
    → at < index
    → tree_at height index (set nodes at node) ≡ tree_at height index nodes
tree_set height index at nodes node below =
    ap (λ (xs : List Node). take (2 ^ (height + 1) - 1) xs) (drop-set-lt index nodes at node below)

pub tree_root_set :
    (height index : ℕ) (nodes : List Node) (node : Node)
    → tree_at height index (set nodes index node) ≡ set (tree_at height index nodes) 0 node
tree_root_set height index nodes node =
    let size = sizes height in
    let some = size.some in
    let half = size.half in
    ap (λ n. tree_at height index (set nodes n node)) (let e : index ≡ index + 0 = omega arith in e)
    ∙ ap (λ (xs : List Node). take (2 ^ (height + 1) - 1) xs) (drop-set-add index nodes 0 node)
    ∙ take-set-lt (2 ^ (height + 1) - 1) (drop index nodes) 0 node (omega arith)

-- ---- one half has changed, and the node above it is written
pub made_left :
    (height index largest : ℕ) (nodes now : List Node)
    → end_at (suc height) index ≤ length nodes
    → ChangesWithin (index + 1) (end_at height (index + 1)) nodes now
    → JoinsAt (suc height) index now largest
    → MadeOf (suc height) height (tree_at (suc height) index nodes)
    (tree_at (suc height) index (set now index (Open largest))) (tree_at height (index + 1) now)
    (right_of (suc height) (tree_at (suc height) index nodes)) largest
made_left height index largest nodes now inside changes joins =
    let size = sizes height in
    let some = pow_pos (height + 1) in
    let next = size.next in
    let whole = size.whole in
    let long = changes.long in
    let written : List Node = set now index (Open largest) in
    let same = length-set now index (Open largest) in
    let lengths = length-tree (suc height) index nodes inside in
    let lengths_after = length-tree (suc height) index (set now index (Open largest)) (omega arith)
    in
    let ends : end_at height (index + 1) ≡ index + 2 ^ suc height = omega arith in
    let right : tree_at height (index + 2 ^ suc height) now ≡ tree_at height
    (index + 2 ^ suc height) nodes = ap (λ n. take (2 ^ (height + 1) - 1) (drop n now))
    (sym ends) ∙ tree_behind height (end_at height (index + 1)) (index + 1) nodes now changes ∙
    ap (λ n. take (2 ^ (height + 1) - 1) (drop n nodes)) ends in
    record {
      parts = record {
        root_is =
            root-tree (suc height) index written
            ∙ get_or-set_same now index (Open largest) Taken (omega arith);
        left_is =
            left-tree height index written
            ∙ tree_set height (index + 1) index now (Open largest) (omega arith);
        right_is =
            right-tree height index written
            ∙ tree_set height (index + 2 ^ suc height) index now (Open largest) (omega arith)
            ∙ right
            ∙ sym (right-tree height index nodes);
      };
      joins =
          joins_same _ _ _ _ (18 + height) _ _ largest (omega arith)
          (ap largest_of (sym (root-tree height (index + 1) now)))
          (ap largest_of
          (sym (root-tree height (index + 2 ^ suc height) now)
          ∙ ap root_of (right ∙ sym (right-tree height index nodes))))
          refl joins;
      long = omega arith;
    }

pub made_right :
    (height index largest : ℕ) (nodes now : List Node)
    → end_at (suc height) index ≤ length nodes
    → ChangesWithin (index + 2 ^ suc height) (end_at height (index + 2 ^ suc height)) nodes now
    → JoinsAt (suc height) index now largest
    → MadeOf (suc height) height (tree_at (suc height) index nodes)
    (tree_at (suc height) index (set now index (Open largest)))
    (left_of (suc height) (tree_at (suc height) index nodes))
    (tree_at height (index + 2 ^ suc height) now) largest
made_right height index largest nodes now inside changes joins =
    let size = sizes height in
    let some = pow_pos (height + 1) in
    let next = size.next in
    let whole = size.whole in
    let long = changes.long in
    let written : List Node = set now index (Open largest) in
    let same = length-set now index (Open largest) in
    let lengths = length-tree (suc height) index nodes inside in
    let lengths_after = length-tree (suc height) index (set now index (Open largest)) (omega arith)
    in
    let begins : end_at height (index + 1) ≡ index + 2 ^ suc height = omega arith in
    let left : tree_at height (index + 1) now ≡ tree_at height (index + 1) nodes = tree_before
    height (index + 1) (end_at height (index + 2 ^ suc height)) nodes now
    (subst_first (index + 2 ^ suc height) (end_at height (index + 1))
    (end_at height (index + 2 ^ suc height)) nodes now (sym begins) changes) in
    record {
      parts = record {
        root_is =
            root-tree (suc height) index written
            ∙ get_or-set_same now index (Open largest) Taken (omega arith);
        left_is =
            left-tree height index written
            ∙ tree_set height (index + 1) index now (Open largest) (omega arith)
            ∙ left
            ∙ sym (left-tree height index nodes);
        right_is =
            right-tree height index written
            ∙ tree_set height (index + 2 ^ suc height) index now (Open largest) (omega arith);
      };
      joins =
          joins_same _ _ _ _ (18 + height) _ _ largest (omega arith)
          (ap largest_of
          (sym (root-tree height (index + 1) now)
          ∙ ap root_of (left ∙ sym (left-tree height index nodes))))
          (ap largest_of (sym (root-tree height (index + 2 ^ suc height) now)))
          refl joins;
      long = omega arith;
    } where
      subst_first :
          (first other end : ℕ) (list changed : List Node)
          → first ≡ other
          → ChangesWithin first end list changed
          → ChangesWithin other end list changed
      subst_first first other end list changed is within =
          record {
            long = within.long;
            before = ap (λ n. take n changed) (sym is) ∙ within.before ∙ ap (λ n. take n list) is;
            behind = within.behind;
          }
