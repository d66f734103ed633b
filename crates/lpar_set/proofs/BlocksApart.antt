-- Blocks that are taken in a pool, no two of which begin at one place: what stays so where some of
-- them are replaced.
use Rattle.std.proofs.Common.{◌≢◌, zero, suc, List, [], ◌∷◌, ◌++◌, All, AllPairs, Contains, get_or, sym, arith}
use Rattle.std.proofs.lemmas.List.Elements.{All-head, All-tail, All-append}
use Rattle.std.proofs.lemmas.List.Kept.{AllPairs-cons}
use Rattle.hpt_pool.specs.Pool.{Block}
use Rattle.basics.proofs.Lists.{All-left, All-right, AllPairs-head, AllPairs-tail}

-- The two blocks begin at two places.
abbrev pub BeginApart : Block → Block → Type 0
BeginApart block other = block.place ≢ other.place

-- ---- pairs of a list in two parts
-- Each element of the first list with each of the second.
abbrev pub AllAcross : {X : Type 0} → (X → X → Type 0) → List X → List X → Type 0
AllAcross R xs ys = All (λ x. All (R x) ys) xs

pub pairs_left :
    {X : Type 0} (R : X → X → Type 0) (xs ys : List X) → AllPairs R (xs ++ ys) → AllPairs R xs
pairs_left R [] ys pairs = λ i j d before inside. absurd (omega arith)
pairs_left R (x ∷ xs) ys pairs =
    AllPairs-cons R x xs (All-left (R x) xs ys (AllPairs-head R x (xs ++ ys) pairs))
    (pairs_left R xs ys (AllPairs-tail R x (xs ++ ys) pairs))

pub pairs_right :
    {X : Type 0} (R : X → X → Type 0) (xs ys : List X) → AllPairs R (xs ++ ys) → AllPairs R ys
pairs_right R [] ys pairs = pairs
pairs_right R (x ∷ xs) ys pairs = pairs_right R xs ys (AllPairs-tail R x (xs ++ ys) pairs)

pub pairs_across :
    {X : Type 0} (R : X → X → Type 0) (xs ys : List X) → AllPairs R (xs ++ ys) → AllAcross R xs ys
pairs_across R [] ys pairs = λ k d inside. absurd (omega arith)
pairs_across {X} R (x ∷ xs) ys pairs =
    at (All-right (R x) xs ys (AllPairs-head R x (xs ++ ys) pairs))
    (pairs_across R xs ys (AllPairs-tail R x (xs ++ ys) pairs)) where
      at : All (R x) ys → AllAcross R xs ys → AllAcross R (x ∷ xs) ys
      at first rest zero d inside = first
      at first rest (suc k) d inside = rest k d (omega arith)

pub pairs_append :
    {X : Type 0} (R : X → X → Type 0) (xs ys : List X)
    → AllPairs R xs
    → AllPairs R ys
    → AllAcross R xs ys
    → AllPairs R (xs ++ ys)
pairs_append R [] ys first second across = second
pairs_append R (x ∷ xs) ys first second across =
    AllPairs-cons R x (xs ++ ys)
    (All-append (R x) xs ys (AllPairs-head R x xs first) (All-head (λ z. All (R z) ys) x xs across))
    (pairs_append R xs ys (AllPairs-tail R x xs first) second
    (All-tail (λ z. All (R z) ys) x xs across))

-- ---- blocks replaced
-- Some blocks of the pool are given back and others are taken: the new ones are taken and begin
-- apart, and each other block stays taken, apart from the new ones.
pub record Replaces (taken own taken_after own_after : List Block) : Type 0 where
  pub held : All (Contains taken_after) own_after
  pub apart : AllPairs BeginApart own_after
  pub kept :
      (block : Block)
      → Contains taken block
      → All (BeginApart block) own
      → Contains taken_after block × All (BeginApart block) own_after

-- All blocks are taken, and no two begin at one place.
pub record AreHeld (taken blocks : List Block) : Type 0 where
  pub held : All (Contains taken) blocks
  pub apart : AllPairs BeginApart blocks

-- Blocks that are held replace themselves, where nothing changes.
pub same_replaces : (taken own : List Block) → AreHeld taken own → Replaces taken own taken own
same_replaces taken own held =
    record { held = held.held; apart = held.apart; kept = λ block here apart. (here, apart) }

pub held_middle :
    (taken before own behind : List Block)
    → AreHeld taken (before ++ (own ++ behind))
    → AreHeld taken own
held_middle taken before own behind held = record {
  held =
      All-left (Contains taken) own behind
      (All-right (Contains taken) before (own ++ behind) held.held);
  apart =
      pairs_left BeginApart own behind (pairs_right BeginApart before (own ++ behind) held.apart);
}

-- Each of these blocks, taken and apart from those that are replaced, stays so.
kept_all :
    (taken own taken_after own_after others : List Block)
    → Replaces taken own taken_after own_after
    → All (Contains taken) others
    → AllAcross BeginApart others own
    → All (Contains taken_after) others × AllAcross BeginApart others own_after
kept_all taken own taken_after own_after others replaced here apart = (
  λ k d inside. (replaced.kept (get_or others k d) (here k d inside) (apart k d inside)).0,
  λ k d inside. (replaced.kept (get_or others k d) (here k d inside) (apart k d inside)).1,
)

turned : (xs ys : List Block) → AllAcross BeginApart xs ys → AllAcross BeginApart ys xs
turned xs ys across =
    λ j e at_other. λ i d at_one. λ same. across i d at_one j e at_other (sym same)

-- The others stand before and after those that are replaced.
pub held_after :
    (taken own taken_after own_after before behind : List Block)
    → Replaces taken own taken_after own_after
    → AreHeld taken (before ++ (own ++ behind))
    → AreHeld taken_after (before ++ (own_after ++ behind))
held_after taken own taken_after own_after before behind replaced all =
    let Held = Contains taken in
    let low : All Held before = All-left Held before (own ++ behind) all.held in
    let high : All Held behind = All-right Held own behind
    (All-right Held before (own ++ behind) all.held) in
    let later : AllPairs BeginApart (own ++ behind) = pairs_right BeginApart before (own ++ behind)
    all.apart in
    let across : AllAcross BeginApart before (own ++ behind) = pairs_across BeginApart before
    (own ++ behind) all.apart in
    let low_own : AllAcross BeginApart before own = λ k d inside. All-left
    (BeginApart (get_or before k d)) own behind (across k d inside) in
    let low_high : AllAcross BeginApart before behind = λ k d inside. All-right
    (BeginApart (get_or before k d)) own behind (across k d inside) in
    let kept_low = kept_all taken own taken_after own_after before replaced low low_own in
    let kept_high = kept_all taken own taken_after own_after behind replaced high
    (turned own behind (pairs_across BeginApart own behind later)) in
    let After = Contains taken_after in
    record {
      held =
          All-append After before (own_after ++ behind) kept_low.0
          (All-append After own_after behind replaced.held kept_high.0);
      apart =
          pairs_append BeginApart before (own_after ++ behind)
          (pairs_left BeginApart before (own ++ behind) all.apart)
          (pairs_append BeginApart own_after behind replaced.apart
          (pairs_right BeginApart own behind later) (turned behind own_after kept_high.1))
          (λ k d inside.
          All-append (BeginApart (get_or before k d)) own_after behind (kept_low.1 k d inside)
          (low_high k d inside));
    }
