-- Lines have no more than one set.
use Rattle.std.specs.List.{AllByRecursion, AllPairs, range_with_len}
use Rattle.std.proofs.Common.{◌≡◌, ◌≢◌, ◌∙◌, ℕ, zero, suc, ◌+◌, ◌<◌, ◌≤◌, Bool, true, false, List, [], ◌∷◌, length, map, get_or, Contains, Result, Ok, refl, sym, ap, subst, eqb, inl, inr, ◌⊎◌, arith}
use Rattle.std.proofs.lemmas.Bool.{cases_eq, eqb-true}
use Rattle.std.proofs.lemmas.List.{get_or_default}
use Rattle.std.proofs.lemmas.List.Elements.{All-from_get_or, recursion_from_All}
use Rattle.basics.proofs.Lists.{AllPairs-head, AllPairs-tail}
use Rattle.trace_read.specs.declared.why.Why.{Why}
use Rattle.trace_read.specs.Trace.{AcceptedTrace}
use Rattle.lpar_set.specs.declared.turn.Turn.{Turn}
use Rattle.lpar_set.specs.PartitionLaws.{IsSetOf, LinesHaveOneSet}
use Rattle.lpar_set.specs.PartitionLines.{own_trace}
use Rattle.lpar_set.specs.SetTrace.{AcceptedSet, IsAcceptedSet, NumberedTrace, no_line, no_partition, partition_at, turns_of}
use Rattle.lpar_set.proofs.Turns.{line_inside, turn_inside}

-- ---- the partitions
-- The trace is that of the partition's own lines.
abbrev IsOwn : List (List ℕ) → NumberedTrace → Type 0
IsOwn lines p = own_trace lines p.number ≡ Ok p.trace

own_ones :
    (lines : List (List ℕ)) (s : AcceptedSet)
    → IsSetOf lines s
    → AllByRecursion (IsOwn lines) s.partitions
own_ones lines s is =
    recursion_from_All (IsOwn lines) s.partitions
    (All-from_get_or (IsOwn lines) s.partitions no_partition (λ k inside.
    is.traces (get_or s.partitions k no_partition) (
      k,
      inside,
      get_or_default s.partitions k (get_or s.partitions k no_partition) no_partition inside,
    )))

one_trace :
    (said : Result AcceptedTrace (ℕ × Why)) (t u : AcceptedTrace)
    → said ≡ Ok t
    → said ≡ Ok u
    → t ≡ u
one_trace said t u one other = cc

same_partitions :
    (lines : List (List ℕ)) (ps qs : List NumberedTrace)
    → map (λ (p : NumberedTrace). p.number) ps ≡ map (λ (p : NumberedTrace). p.number) qs
    → AllByRecursion (IsOwn lines) ps
    → AllByRecursion (IsOwn lines) qs
    → ps ≡ qs
same_partitions lines [] [] numbers own other = refl
same_partitions lines [] (q ∷ qs) numbers own other = absurd (cc)
same_partitions lines (p ∷ ps) [] numbers own other = absurd (cc)
same_partitions lines (p ∷ ps) (q ∷ qs) numbers own other =
    let number : p.number ≡ q.number = cc in
    let rest : map (λ (p : NumberedTrace). p.number) ps ≡ map (λ (p : NumberedTrace). p.number) qs =
    cc in
    let trace : p.trace ≡ q.trace = one_trace (own_trace lines q.number) p.trace q.trace
    (ap (own_trace lines) (sym number) ∙ own.0) other.0 in
    let later : ps ≡ qs = same_partitions lines ps qs rest own.1 other.1 in
    λ i. record { number = number i; trace = trace i } ∷ later i

-- ---- elements
-- The element is among these.
abbrev Has : {A : Type 0} → List A → A → Type 0
Has [] a = ⊥
Has (x ∷ xs) a = (x ≡ a) ⊎ Has xs a

all_has : {A : Type 0} (P : A → Type 0) (xs : List A) (a : A) → AllByRecursion P xs → Has xs a → P a
all_has P [] a all has = absurd has
all_has P (x ∷ xs) a all (inl same) = subst P same all.0
all_has P (x ∷ xs) a all (inr later) = all_has P xs a all.1 later

-- What is numbered by this rises.
abbrev Rises : (Turn → ℕ) → List Turn → Type 0
Rises f [] = Unit {0}
Rises f (t ∷ ts) = AllByRecursion (λ u. f t < f u) ts × Rises f ts

rises : (f : Turn → ℕ) (ts : List Turn) → AllPairs (λ t u. f t < f u) ts → Rises f ts
rises f [] pairs = tt
rises f (t ∷ ts) pairs = (
  recursion_from_All (λ u. f t < f u) ts (AllPairs-head (λ t u. f t < f u) t ts pairs),
  rises f ts (AllPairs-tail (λ t u. f t < f u) t ts pairs),
)

same_head :
    (f : Turn → ℕ) (x y : Turn) (xs ys : List Turn)
    → AllByRecursion (λ u. f x < f u) xs
    → AllByRecursion (λ u. f y < f u) ys
    → Has (y ∷ ys) x
    → Has (x ∷ xs) y
    → x ≡ y
same_head f x y xs ys above over (inl same) there = sym same
same_head f x y xs ys above over (inr later) (inl same) = same
same_head f x y xs ys above over (inr later) (inr behind) =
    let low : f y < f x = all_has (λ u. f y < f u) ys x over later in
    let high : f x < f y = all_has (λ u. f x < f u) xs y above behind in
    absurd (omega (arith, low, high))

narrow :
    (f : Turn → ℕ) (x y : Turn) (zs ys : List Turn)
    → x ≡ y
    → AllByRecursion (λ u. f x < f u) zs
    → AllByRecursion (Has (y ∷ ys)) zs
    → AllByRecursion (Has ys) zs
narrow f x y [] ys same above has = tt
narrow f x y (z ∷ zs) ys same above has =
    (by above.0 has.0, narrow f x y zs ys same above.1 has.1) where
      by : f x < f z → Has (y ∷ ys) z → Has ys z
      by high (inl here) =
          let level : f x ≡ f z = ap f (same ∙ here) in
          absurd (omega (arith, high, level))
      by high (inr later) = later

-- Lists that rise and have the same elements are the same.
same_rising :
    (f : Turn → ℕ) (xs ys : List Turn)
    → Rises f xs
    → Rises f ys
    → AllByRecursion (Has ys) xs
    → AllByRecursion (Has xs) ys
    → xs ≡ ys
same_rising f [] [] one other left right = refl
same_rising f [] (y ∷ ys) one other left right = absurd right.0
same_rising f (x ∷ xs) [] one other left right = absurd left.0
same_rising f (x ∷ xs) (y ∷ ys) one other left right =
    let same : x ≡ y = same_head f x y xs ys one.0 other.0 left.0 right.0 in
    let rest : xs ≡ ys = same_rising f xs ys one.1 other.1 (narrow f x y xs ys same one.0 left.1)
    (narrow f y x ys xs (sym same) other.0 right.1) in
    λ i. same i ∷ rest i

-- ---- the turns
range_has : (n a j : ℕ) → a ≤ j → j < a + n → Has (range_with_len a n) j
range_has zero a j low high = absurd (omega (arith, low, high))
range_has (suc n) a j low high =
    by (cases_eq a j) (λ later. range_has n (a + 1) j later (omega (arith, high))) where
      by :
          (a ≡ j) ⊎ (a ≡ j → ⊥)
          → (a + 1 ≤ j → Has (range_with_len (a + 1) n) j)
          → Has (range_with_len a (suc n)) j
      by (inl here) later = inl here
      by (inr other) later =
          let differ : a ≢ j = other in
          inr (later (omega (arith, low, differ)))

turn_found :
    (turns : List Turn) (k j : ℕ)
    → Has (map (λ (t : Turn). t.line) (turns_of k turns)) j
    → Has turns (record { partition = k; line = j })
turn_found [] k j has = has
turn_found (u ∷ us) k j has =
    by (eqb u.partition k) refl has (λ later. turn_found us k j later) where
      by :
          (own : Bool)
          → eqb u.partition k ≡ own
          → Has (map (λ (t : Turn). t.line) (turns_of k (u ∷ us))) j
          →
          (Has (map (λ (t : Turn). t.line) (turns_of k us)) j
          → Has us (record { partition = k; line = j }))
          → Has (u ∷ us) (record { partition = k; line = j })
      by false other has later = inr (later (rw other at has))
      by true own has later = first (rw own at has) where
        partition : u.partition ≡ k
        partition = eqb-true u.partition k own

        first :
            (u.line ≡ j) ⊎ Has (map (λ (t : Turn). t.line) (turns_of k us)) j
            → Has (u ∷ us) (record { partition = k; line = j })
        first (inl here) = inl (λ i. record { partition = partition i; line = here i })
        first (inr behind) = inr (later behind)

has_turn :
    (s : AcceptedSet) (k j : ℕ)
    → IsAcceptedSet s
    → k < length s.partitions
    → j < length (partition_at s k).trace.lines
    → Has s.turns (record { partition = k; line = j })
has_turn s k j is inside within =
    turn_found s.turns k j
    (subst (λ (ns : List ℕ). Has ns j) (sym (is.lines k inside))
    (range_has (length (partition_at s k).trace.lines) 0 j (omega arith)
    (omega (arith, within))))

-- Each turn of the one is a turn of the other.
turns_found :
    (s t : AcceptedSet)
    → IsAcceptedSet s
    → IsAcceptedSet t
    → s.partitions ≡ t.partitions
    → AllByRecursion (Has t.turns) s.turns
turns_found s t is other same =
    recursion_from_All (Has t.turns) s.turns
    (All-from_get_or (Has t.turns) s.turns none (λ i inside.
    (let turn : Turn = get_or s.turns i none in
    let here : Contains s.turns turn = (i, inside, get_or_default s.turns i turn none inside) in
    has_turn t turn.partition turn.line other
    (subst (λ (ps : List NumberedTrace). turn.partition < length ps) same
    (turn_inside s turn is here))
    (subst
    (λ (ps : List NumberedTrace).
    turn.line < length (get_or ps turn.partition no_partition).trace.lines) same
    (line_inside s turn is here))))) where
      none : Turn
      none = record { partition = 0; line = 0 }

same_turns :
    (lines : List (List ℕ)) (s t : AcceptedSet)
    → IsAcceptedSet s
    → IsAcceptedSet t
    → IsSetOf lines s
    → IsSetOf lines t
    → s.partitions ≡ t.partitions
    → s.turns ≡ t.turns
same_turns lines s t is other one two same =
    let number : List NumberedTrace → Turn → ℕ = λ ps u.
    (get_or (get_or ps u.partition no_partition).trace.lines u.line no_line).number in
    same_rising (number t.partitions) s.turns t.turns
    (rises (number t.partitions) s.turns
    (subst (λ ps. AllPairs (λ u v. number ps u < number ps v) s.turns) same one.turns))
    (rises (number t.partitions) t.turns two.turns)
    (turns_found s t is other same)
    (turns_found t s other is (sym same))

pub lines_have_one_set : LinesHaveOneSet
lines_have_one_set lines s t is other one two =
    let base : s.pool_base ≡ t.pool_base = one.base ∙ sym two.base in
    let order : s.pool_order ≡ t.pool_order = one.order ∙ sym two.order in
    let partitions : s.partitions ≡ t.partitions = same_partitions lines s.partitions t.partitions
    (one.numbers ∙ sym two.numbers) (own_ones lines s one) (own_ones lines t two) in
    let turns : s.turns ≡ t.turns = same_turns lines s t is other one two partitions in
    λ i.
    record { pool_base = base i; pool_order = order i; partitions = partitions i; turns = turns i }
