use Rattle.std.proofs.Common.{◌≡◌, ℕ, suc, ◌+◌, ◌-◌, ◌^◌, ◌<◌, List, length, set, ap, ◌∙◌, subst, arith}
use Rattle.std.proofs.lemmas.List.{length-set, get_or-set_same}
use borrow.Rule.Slice.PartMut.{put_mid}
use Rattle.hpt_pool.specs.declared.tree.Node.{Node}
use Rattle.hpt_pool.specs.declared.tree.Node.TheVariants.{Taken, Open}
use Rattle.hpt_pool.specs.Tree.{root_of, largest_of, free_below, JoinsHalves, IsTruthful}
use Rattle.hpt_pool.proofs.Shape.{HasParts}
use Rattle.hpt_pool.proofs.Truth.{leaf_truthful}
use Rattle.hpt_pool.proofs.Parts.{some_nodes, truthful_at}
use Rattle.hpt_pool.proofs.Mending.{both_put}
use Rattle.hpt_pool.proofs.tree.+free_all.Goals as goal

-- ---- a leaf
leaf : (nodes : List Node) → 0 < length nodes → IsTruthful 0 (set nodes 0 (Open 18))
leaf nodes some =
    leaf_truthful (set nodes 0 (Open 18))
    (ap (λ (root : Node). free_below root 18) (get_or-set_same nodes 0 (Open 18) Taken some))

pub returns-else-height-gt0-clause-tree : goal.returns-else-height-gt0-clause-tree
returns-else-height-gt0-clause-tree t c =
    let none : 0 ≡ c.args.height = omega arith in
    record {
      whole =
          ap (λ n. n + 1) (length-set c.args.nodes.now 0 (Open (18 + c.args.height)))
          ∙ c.requires.whole;
      truthful =
          subst (λ (n : ℕ). IsTruthful n (set c.args.nodes.now 0 (Open (18 + n)))) none
          (leaf c.args.nodes.now (some_nodes c.args.height c.args.nodes.now c.requires.whole));
    }

-- ---- two halves
joins_whole :
    (height lower left right : ℕ)
    → height ≡ suc lower
    → left ≡ 18 + lower
    → right ≡ 18 + lower
    → JoinsHalves (18 + lower) left right (18 + height)
joins_whole height lower left right is left_is right_is =
    record {
      whole = λ all_left all_right. omega arith;
      left_part = λ part. absurd (omega arith);
      right_part = λ part. absurd (omega arith);
    }

-- The nodes after the left half is written.
abbrev middle : (t : ℕ) → goal.After-nodes-then-height-gt0-1 t → List Node
middle t c =
    put_mid 1 (c.half_of-half.result - 1) (set c.args.nodes.now 0 (Open (18 + c.args.height)))
    c.free_all.new.nodes

-- The nodes after both halves are written.
abbrev after : (t : ℕ) → goal.After-nodes-then-height-gt0-1 t → List Node
after t c =
    put_mid c.half_of-half.result (length (middle t c) - c.half_of-half.result) (middle t c)
    c.free_all-then-height-gt0.new.nodes

freed :
    (t : ℕ) (c : goal.After-nodes-then-height-gt0-1 t)
    → HasParts c.args.height (after t c) (Open (18 + c.args.height)) c.free_all.new.nodes
    c.free_all-then-height-gt0.new.nodes
    × (length (after t c) ≡ length c.args.nodes.now)
freed t c =
    let positive = c.if-height-gt0.true in
    let power : 2 ^ (c.args.height - 1 + 1) ≡ 2 ^ c.args.height = ap (λ n. 2 ^ n) (omega arith) in
    let half = c.half_of-half.ensures in
    let left_long = c.free_all.ensures.tree.whole in
    let right_long = c.free_all-then-height-gt0.ensures.tree.whole in
    both_put c.args.height c.half_of-half.result c.args.nodes.now c.free_all.new.nodes
    c.free_all-then-height-gt0.new.nodes (Open (18 + c.args.height)) half c.requires.whole
    (omega arith) (omega arith)

pub returns-then-height-gt0-clause-tree : goal.returns-then-height-gt0-clause-tree
returns-then-height-gt0-clause-tree t c =
    let positive = c.if-height-gt0.true in
    let is : c.args.height ≡ suc (c.args.height - 1) = omega arith in
    record {
      whole = ap (λ n. n + 1) (freed t c).1 ∙ c.requires.whole;
      truthful =
          truthful_at c.args.height (c.args.height - 1) (after t c) (Open (18 + c.args.height))
          c.free_all.new.nodes c.free_all-then-height-gt0.new.nodes is (freed t c).0
          (joins_whole c.args.height (c.args.height - 1)
          (largest_of (root_of c.free_all.new.nodes))
          (largest_of (root_of c.free_all-then-height-gt0.new.nodes)) is
          c.free_all.ensures.free c.free_all-then-height-gt0.ensures.free)
          c.free_all.ensures.tree.truthful c.free_all-then-height-gt0.ensures.tree.truthful;
    }

pub returns-then-height-gt0-clause-free : goal.returns-then-height-gt0-clause-free
returns-then-height-gt0-clause-free t c = ap largest_of (freed t c).0.root_is
