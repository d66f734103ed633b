-- Lists: tests of some element, filters, the first that passes, and what holds between each element
-- and a later one.
use Rattle.std.proofs.Common.{◌≡◌, ℕ, suc, zero, ◌<◌, get_or, length, Bool, true, false, List, [], ◌∷◌, find, All, Some, None, refl, inl, inr, ◌⊎◌, arith}
use Rattle.std.specs.List.{list_any}
use Rattle.std.proofs.lemmas.Bool.{cases_Bool}
use Rattle.std.proofs.lemmas.List.Elements.{All-head, All-tail}
use Rattle.std.proofs.lemmas.List.Folds.{list_any_none}
use Rattle.basics.proofs.Lists.{list_any-false}

pub list_any-weaker :
    {X : Type 0} (p q : X → Bool) (xs : List X)
    → All (λ x. p x ≡ true → q x ≡ true) xs
    → list_any p xs ≡ true
    → list_any q xs ≡ true
list_any-weaker {X} p q xs all some = at (cases_Bool (list_any q xs)) where
  at : (list_any q xs ≡ true) ⊎ (list_any q xs ≡ false) → list_any q xs ≡ true
  at (inl passes) = passes
  at (inr fails) =
      let none = list_any-false q xs fails in
      let none_before = list_any_none p xs
      (λ k d inside. no k d inside (none k d inside) (cases_Bool (p (get_or xs k d)))) in
      absurd (cc) where
        no :
            (k : ℕ) (d : X)
            → k < length xs
            → q (get_or xs k d) ≡ false
            → (p (get_or xs k d) ≡ true) ⊎ (p (get_or xs k d) ≡ false)
            → p (get_or xs k d) ≡ false
        no k d inside out (inl passes) = let yes = all k d inside passes in absurd (cc)
        no k d inside out (inr is) = is

-- ---- the first that passes
pub find_none :
    {X : Type 0} (p : X → Bool) (xs : List X) → All (λ x. p x ≡ false) xs → find p xs ≡ None
find_none p [] all = refl
find_none p (x ∷ xs) all =
    rw (All-head (λ y. p y ≡ false) x xs all)
    (find_none p xs (All-tail (λ y. p y ≡ false) x xs all))

pub find_first :
    {X : Type 0} (p : X → Bool) (xs : List X) (n : ℕ) (d : X)
    → n < length xs
    → ((k : ℕ) → k < n → p (get_or xs k d) ≡ false)
    → p (get_or xs n d) ≡ true
    → find p xs ≡ Some (get_or xs n d)
find_first p [] n d inside lower passes = absurd (omega arith)
find_first p (x ∷ xs) zero d inside lower passes = rw passes refl
find_first p (x ∷ xs) (suc n) d inside lower passes =
    let fails : p x ≡ false = lower 0 (omega arith) in
    rw fails (find_first p xs n d (omega arith) (λ k before. lower (suc k) (omega arith)) passes)
