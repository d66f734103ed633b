-- What a sort exchanges are the same receipts, listed in another order.
use Rattle.std.proofs.Common.{◌≡◌, ℕ, zero, suc, ◌<◌, ◌≤◌, List, [], ◌∷◌, length, get_or, set, sym, ◌∙◌, refl, subst, arith}
use Rattle.std.specs.Prelude.{IsPermutation}
use Rattle.std.specs.List.{swap, AllByRecursion}
use Rattle.std.specs.List.Sorted.{apply_swaps, SwapsInRange, IsNonDecreasingBy}
use Rattle.std.proofs.lemmas.List.Edits.{length-swap}
use Rattle.entry_model.specs.declared.receipt.Receipt.{Receipt}
use Rattle.entry_model.specs.History.{place, Regrouped, kept, swapped, twice}
use Rattle.entry_model.proofs.Regroup.{regrouped_self}
use Rattle.history_check.proofs.Serialized.{Ascending}

with_first :
    (x : Receipt) (xs : List Receipt) (j : ℕ) (e : Receipt)
    → j < length xs
    → Regrouped (x ∷ xs) (get_or xs j e ∷ set xs j x)
with_first x [] j e low = absurd (omega arith)
with_first x (y ∷ ys) zero e low = swapped x y ys
with_first x (y ∷ ys) (suc j) e low =
    twice (swapped x y ys)
    (twice (kept y (with_first x ys j e (omega arith)))
    (swapped y (get_or ys j e) (set ys j x)))

exchanged :
    (xs : List Receipt) (i j : ℕ) (e : Receipt)
    → i < length xs
    → j < length xs
    → Regrouped xs (set (set xs i (get_or xs j e)) j (get_or xs i e))
exchanged [] i j e low high = absurd (omega arith)
exchanged (x ∷ xs) zero zero e low high = regrouped_self (x ∷ xs)
exchanged (x ∷ xs) zero (suc j) e low high = with_first x xs j e (omega arith)
exchanged (x ∷ xs) (suc i) zero e low high = with_first x xs i e (omega arith)
exchanged (x ∷ xs) (suc i) (suc j) e low high =
    kept x (exchanged xs i j e (omega arith) (omega arith))

swap_regroups :
    (xs : List Receipt) (i j : ℕ) → i < length xs → j < length xs → Regrouped xs (swap xs i j)
swap_regroups [] i j low high = absurd (omega arith)
swap_regroups (d ∷ ys) i j low high = exchanged (d ∷ ys) i j d low high

swaps_regroup :
    (xs : List Receipt) (ms : List (ℕ × ℕ))
    → SwapsInRange (length xs) ms
    → Regrouped xs (apply_swaps xs ms) × (length (apply_swaps xs ms) ≡ length xs)
swaps_regroup xs [] h = (regrouped_self xs, refl)
swaps_regroup xs (p ∷ ps) h =
    let rest = swaps_regroup xs ps h.2 in
    let ys = apply_swaps xs ps in (
      twice rest.0
          (swap_regroups ys p.0 p.1 (subst (λ n. p.0 < n) (sym rest.1) h.0)
          (subst (λ n. p.1 < n) (sym rest.1) h.1)),
      length-swap ys p.0 p.1 ∙ rest.1,
    )

pub permuted : (xs ys : List Receipt) → IsPermutation xs ys → Regrouped xs ys
permuted xs ys h = subst (Regrouped xs) (sym h.is) (swaps_regroup xs h.moves h.below).0

-- ---- sorted lists
not_before_from :
    (x : Receipt) (xs : List Receipt)
    → ((j : ℕ) (d : Receipt) → j < length xs → place x ≤ place (get_or xs j d))
    → AllByRecursion (λ (y : Receipt). place x ≤ place y) xs
not_before_from x [] f = tt
not_before_from x (y ∷ ys) f =
    (f 0 y (omega arith), not_before_from x ys (λ j d low. f (suc j) d (omega arith)))

pub ascending_from : (xs : List Receipt) → IsNonDecreasingBy place xs → Ascending xs
ascending_from [] h = tt
ascending_from (x ∷ xs) h = (
  not_before_from x xs (λ j d low. h 0 (suc j) d (omega arith) (omega arith)),
  ascending_from xs (λ i j d le low. h (suc i) (suc j) d (omega arith) (omega arith)),
)
