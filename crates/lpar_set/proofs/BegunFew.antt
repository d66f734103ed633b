-- Eight partitions are the most that begin.
use Rattle.std.specs.List.{AllByRecursion, AllPairs, IsDistinct}
use Rattle.std.proofs.Common.{◌≡◌, ◌≢◌, ℕ, ◌+◌, ◌<◌, ◌≤◌, false, List, [], ◌∷◌, ◌++◌, length, get_or, sym, subst, eqb, arith}
use Rattle.std.proofs.lemmas.Bool.{eqb-true, ne_eqb}
use Rattle.std.proofs.lemmas.List.{length_push}
use Rattle.std.proofs.lemmas.List.Elements.{All-from_recursion, recursion_from_All, All-push, All-get_or}
use Rattle.std.proofs.lemmas.List.Folds.{Any-from_list_any}
use Rattle.std.proofs.lemmas.List.Quantifiers.{all_pairs_push}
use Rattle.std.proofs.lemmas.Map.Steps.{length-le_from_distinct_below}
use Rattle.basics.proofs.Lists.{AllPairs-head, AllPairs-tail}
use Rattle.trace_read.specs.Places.{is_running}
use Rattle.lpar_set.specs.SetGrammar.{SetReading, reading_of}
use Rattle.lpar_set.specs.SetReadings.{HasBegun, IsSetReading}
use Rattle.lpar_set.proofs.BegunKept.{begun_other}

distinct : (ns : List ℕ) → AllPairs (λ (n m : ℕ). n ≢ m) ns → IsDistinct eqb ns
unfolding IsDistinct
distinct [] apart = tt
distinct (n ∷ ns) apart = (
  recursion_from_All (λ m. eqb n m ≡ false) ns
      (λ k d inside.
      ne_eqb n (get_or ns k d) (AllPairs-head (λ (n m : ℕ). n ≢ m) n ns apart k d inside)),
  distinct ns (AllPairs-tail (λ (n m : ℕ). n ≢ m) n ns apart),
)

-- Numbers below 8, no two of them one, are eight at most.
few_below :
    (ns : List ℕ)
    → AllByRecursion (λ n. n < 8) ns
    → AllPairs (λ (n m : ℕ). n ≢ m) ns
    → length ns ≤ 8
few_below ns below apart =
    length-le_from_distinct_below ns 8 (distinct ns apart)
    (λ q there.
    let found = Any-from_list_any (eqb q) ns there in
    let small : found.1 < 8 = subst (λ n. n < 8) found.3
    (All-from_recursion (λ n. n < 8) ns below found.0 found.1 found.2) in
    subst (λ n. n < 8) (sym (eqb-true q found.1 found.4)) small)

-- While one has not, there is a place for it.
pub begun_place :
    (r : SetReading) (number : ℕ)
    → IsSetReading r
    → number < 8
    → is_running (reading_of r number).stage ≡ false
    → length r.begun < 8
begun_place r number is below before =
    let more : length (r.begun ++ number ∷ []) ≤ 8 =
    few_below (r.begun ++ number ∷ [])
    (recursion_from_All (λ m. m < 8) (r.begun ++ number ∷ [])
    (All-push (λ m. m < 8) r.begun number
    (All-from_recursion (λ m. m < 8) r.begun is.begun.below) below))
    (all_pairs_push (λ (n m : ℕ). n ≢ m) r.begun number is.begun.apart
    (λ k d within.
    begun_other r number (get_or r.begun k d) before
    (All-get_or (HasBegun r) r.begun k d within
    (All-from_recursion (HasBegun r) r.begun is.begun.running)))) in
    let size : length (r.begun ++ number ∷ []) ≡ length r.begun + 1 = length_push r.begun number in
    omega (arith, more, size)
