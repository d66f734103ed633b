-- Lists in two parts, what holds between each element and a later one, filters and searches.
use Rattle.std.proofs.Common.{◌≡◌, suc, Bool, true, false, not, List, [], ◌∷◌, ◌++◌, filter, find, All, AllPairs, Contains, Some, None, refl, ap, subst, inl, inr, ◌⊎◌, arith}
use Rattle.std.specs.List.{list_any}
use Rattle.std.proofs.lemmas.Bool.{cases_Bool}
use Rattle.std.proofs.lemmas.List.Elements.{All-nil, All-cons, All-head, All-tail, All-append}
use Rattle.std.proofs.lemmas.List.Kept.{AllPairs-cons}

-- ---- the parts of a list
pub All-left : {X : Type 0} (P : X → Type 0) (xs ys : List X) → All P (xs ++ ys) → All P xs
All-left P [] ys all = All-nil P
All-left P (x ∷ xs) ys all =
    All-cons P x xs (All-head P x (xs ++ ys) all) (All-left P xs ys (All-tail P x (xs ++ ys) all))

pub All-right : {X : Type 0} (P : X → Type 0) (xs ys : List X) → All P (xs ++ ys) → All P ys
All-right P [] ys all = all
All-right P (x ∷ xs) ys all = All-right P xs ys (All-tail P x (xs ++ ys) all)

pub AllPairs-head :
    {X : Type 0} (R : X → X → Type 0) (x : X) (xs : List X) → AllPairs R (x ∷ xs) → All (R x) xs
AllPairs-head R x xs pairs = λ k d inside. pairs 0 (suc k) d (omega arith) (omega arith)

pub AllPairs-tail :
    {X : Type 0} (R : X → X → Type 0) (x : X) (xs : List X) → AllPairs R (x ∷ xs) → AllPairs R xs
AllPairs-tail R x xs pairs =
    λ i j d before inside. pairs (suc i) (suc j) d (omega arith) (omega arith)

-- An element put between two parts.
pub AllPairs-between :
    {X : Type 0} (R : X → X → Type 0) (x : X) (xs ys : List X)
    → AllPairs R (xs ++ ys)
    → All (λ y. R y x) xs
    → All (R x) ys
    → AllPairs R (xs ++ x ∷ ys)
AllPairs-between R x [] ys pairs lower higher = AllPairs-cons R x ys higher pairs
AllPairs-between R x (y ∷ xs) ys pairs lower higher =
    let later : All (R y) (xs ++ ys) = AllPairs-head R y (xs ++ ys) pairs in
    AllPairs-cons R y (xs ++ x ∷ ys)
    (All-append (R y) xs (x ∷ ys) (All-left (R y) xs ys later)
    (All-cons (R y) x ys (All-head (λ z. R z x) y xs lower) (All-right (R y) xs ys later)))
    (AllPairs-between R x xs ys (AllPairs-tail R y (xs ++ ys) pairs)
    (All-tail (λ z. R z x) y xs lower) higher)

-- ---- filters
pub filter_all :
    {X : Type 0} (p : X → Bool) (xs : List X) → All (λ x. p x ≡ true) xs → filter p xs ≡ xs
filter_all p [] all = refl
filter_all p (x ∷ xs) all =
    rw (All-head (λ y. p y ≡ true) x xs all, filter_all p xs (All-tail (λ y. p y ≡ true) x xs all))
    refl

pub filter_none :
    {X : Type 0} (p : X → Bool) (xs : List X) → All (λ x. p x ≡ false) xs → filter p xs ≡ []
filter_none p [] all = refl
filter_none p (x ∷ xs) all =
    rw (All-head (λ y. p y ≡ false) x xs all)
    (filter_none p xs (All-tail (λ y. p y ≡ false) x xs all))

-- Where what fails is followed only by what fails, the elements that pass stand before the others.
pub filters_join :
    {X : Type 0} (p : X → Bool) (xs : List X)
    → AllPairs (λ x y. p x ≡ false → p y ≡ false) xs
    → filter p xs ++ filter (λ x. not (p x)) xs ≡ xs
filters_join p [] pairs = refl
filters_join {X} p (x ∷ xs) pairs =
    at (filters_join p xs (AllPairs-tail (λ y z. p y ≡ false → p z ≡ false) x xs pairs))
    (cases_Bool (p x)) where
      at :
          filter p xs ++ filter (λ y. not (p y)) xs ≡ xs
          → (p x ≡ true) ⊎ (p x ≡ false)
          → filter p (x ∷ xs) ++ filter (λ y. not (p y)) (x ∷ xs) ≡ x ∷ xs
      at shorter (inl passes) = rw passes (ap (λ ys. x ∷ ys) shorter)
      at shorter (inr fails) =
          let rest : All (λ y. p y ≡ false) xs = λ k d inside. AllPairs-head
          (λ y z. p y ≡ false → p z ≡ false) x xs pairs k d inside fails in
          let others : All (λ y. not (p y) ≡ true) xs = λ k d inside. rw (rest k d inside) refl in
          rw (fails, filter_none p xs rest, filter_all (λ y. not (p y)) xs others) refl

-- ---- what a search found
pub list_any-false :
    {X : Type 0} (p : X → Bool) (xs : List X) → list_any p xs ≡ false → All (λ x. p x ≡ false) xs
list_any-false p [] none = All-nil (λ x. p x ≡ false)
list_any-false p (x ∷ xs) none = at (list_any-false p xs) (cases_Bool (p x)) where
  at :
      (list_any p xs ≡ false → All (λ y. p y ≡ false) xs)
      → (p x ≡ true) ⊎ (p x ≡ false)
      → All (λ y. p y ≡ false) (x ∷ xs)
  at shorter (inl passes) = let some : list_any p (x ∷ xs) ≡ true = rw passes refl in cc
  at shorter (inr fails) = All-cons (λ y. p y ≡ false) x xs fails (shorter (rw fails at none))

pub find-None :
    {X : Type 0} (p : X → Bool) (xs : List X) → find p xs ≡ None → All (λ x. p x ≡ false) xs
find-None p [] none = All-nil (λ x. p x ≡ false)
find-None p (x ∷ xs) none = at (find-None p xs) (cases_Bool (p x)) where
  at :
      (find p xs ≡ None → All (λ y. p y ≡ false) xs)
      → (p x ≡ true) ⊎ (p x ≡ false)
      → All (λ y. p y ≡ false) (x ∷ xs)
  at shorter (inl passes) = let some : find p (x ∷ xs) ≡ Some x = rw passes refl in cc
  at shorter (inr fails) = All-cons (λ y. p y ≡ false) x xs fails (shorter (rw fails at none))

-- What is found passes, and is one of the list.
pub find-Some :
    {X : Type 0} (p : X → Bool) (xs : List X) (y : X)
    → find p xs ≡ Some y
    → (p y ≡ true) × Contains xs y
find-Some p [] y none = absurd (cc)
find-Some p (x ∷ xs) y found = at (find-Some p xs y) (cases_Bool (p x)) where
  at :
      (find p xs ≡ Some y → (p y ≡ true) × Contains xs y)
      → (p x ≡ true) ⊎ (p x ≡ false)
      → (p y ≡ true) × Contains (x ∷ xs) y
  at shorter (inl passes) =
      let first : find p (x ∷ xs) ≡ Some x = rw passes refl in
      let same : x ≡ y = cc in
      (subst (λ z. p z ≡ true) same passes, (0, omega arith, same))
  at shorter (inr fails) =
      let later : (p y ≡ true) × Contains xs y = shorter (rw fails at found) in
      (later.0, (suc later.1.0, omega arith, later.1.2))
