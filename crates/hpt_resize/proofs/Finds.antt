-- The lowest number of a range that passes a test.
use Rattle.std.proofs.Common.{◌≡◌, ℕ, suc, zero, ◌+◌, ◌<◌, Bool, true, false, find, Some, None, refl, ap, ◌∙◌, subst, inl, inr, ◌⊎◌, arith}
use Rattle.std.specs.List.{range_with_len}
use Rattle.std.proofs.lemmas.Bool.{cases_Bool}

pub find_none :
    (p : ℕ → Bool) (start n : ℕ)
    → ((k : ℕ) → k < n → p (start + k) ≡ false)
    → find p (range_with_len start n) ≡ None
find_none p start zero fails = refl
find_none p start (suc n) fails =
    let here : p start ≡ false = ap p (let e : start ≡ start + 0 = omega arith in e) ∙ fails 0
    (omega arith) in
    rw here
    (find_none p (start + 1) n
    (λ k below.
    ap p (let e : start + 1 + k ≡ start + suc k = omega arith in e)
    ∙ fails (suc k) (omega arith)))

pub find_first :
    (p : ℕ → Bool) (start n i : ℕ)
    → i < n
    → ((k : ℕ) → k < i → p (start + k) ≡ false)
    → p (start + i) ≡ true
    → find p (range_with_len start n) ≡ Some (start + i)
find_first p start zero i below lower passes = absurd (omega arith)
find_first p start (suc n) zero below lower passes =
    let e : start ≡ start + 0 = omega arith in
    let here : p start ≡ true = ap p e ∙ passes in
    rw here (ap Some e)
find_first p start (suc n) (suc i) below lower passes =
    let here : p start ≡ false = ap p (let e : start ≡ start + 0 = omega arith in e) ∙ lower 0
    (omega arith) in
    let next : start + 1 + i ≡ start + suc i = omega arith in
    rw here
    (find_first p (start + 1) n i (omega arith)
    (λ k before.
    ap p (let e : start + 1 + k ≡ start + suc k = omega arith in e)
    ∙ lower (suc k) (omega arith)) (ap p next ∙ passes)
    ∙ ap Some next)

-- What a search in a range says of what it found.
pub record IsFound (p : ℕ → Bool) (start n found : ℕ) : Type 0 where
  pub below : found < start + n
  pub passes : p found ≡ true

pub found_is :
    (p : ℕ → Bool) (start n found : ℕ)
    → find p (range_with_len start n) ≡ Some found
    → IsFound p start n found
found_is p start zero found some = absurd (cc)
found_is p start (suc n) found some =
    at (found_is p (start + 1) n found) (cases_Bool (p start)) where
      at :
          (find p (range_with_len (start + 1) n) ≡ Some found → IsFound p (start + 1) n found)
          → (p start ≡ true) ⊎ (p start ≡ false)
          → IsFound p start (suc n) found
      at shorter (inl passes) =
          let first : find p (range_with_len start (suc n)) ≡ Some start = rw passes refl in
          let same : start ≡ found = cc in
          record { below = omega arith; passes = subst (λ m. p m ≡ true) same passes }
      at shorter (inr fails) =
          let later = shorter (rw fails at some) in
          let below : found < start + 1 + n = later.below in
          record { below = omega arith; passes = later.passes }

pub none_found :
    (p : ℕ → Bool) (start n k : ℕ)
    → find p (range_with_len start n) ≡ None
    → k < n
    → p (start + k) ≡ false
none_found p start zero k none below = absurd (omega arith)
none_found p start (suc n) k none below =
    at (none_found p (start + 1) n) k below (cases_Bool (p start)) where
      at :
          ((m : ℕ)
          → find p (range_with_len (start + 1) n) ≡ None
          → m < n
          → p (start + 1 + m) ≡ false)
          → (m : ℕ)
          → m < suc n
          → (p start ≡ true) ⊎ (p start ≡ false)
          → p (start + m) ≡ false
      at shorter m low (inl passes) = let first :
          find p (range_with_len start (suc n)) ≡ Some start = rw passes refl in absurd (cc)
      at shorter zero low (inr fails) = ap p (let e : start + 0 ≡ start = omega arith in e) ∙ fails
      at shorter (suc m) low (inr fails) =
          ap p (let e : start + suc m ≡ start + 1 + m = omega arith in e)
          ∙ shorter m (rw fails at none) (omega arith)
