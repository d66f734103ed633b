-- Lists read by `slice_get`.
use Rattle.std.specs.Prelude.{slice_get, Option, true, is_some}
use Rattle.std.proofs.Common.{◌≡◌, ◌≢◌, ℕ, zero, suc, ◌⊎◌, List, [], ◌∷◌, ◌++◌, map, replicate, set, Some, None, sym, refl, ap, ◌∙◌, inl, inr, ⊎_elim, arith}

module _ {A : Type 0} where
  -- `Some` gives its value back, and isn't `None`.
  pub some_same : (x y : A) → Some x ≡ Some y → x ≡ y
  some_same x y h = cc

  pub none_some : (x : A) → None ≡ Some x → ⊥
  none_some x h = cc

  pub at_set :
      (l : List A) (i j : ℕ) (a b : A)
      → slice_get (set l i a) j ≡ Some b
      → ((j ≡ i) × (a ≡ b)) ⊎ ((j ≢ i) × (slice_get l j ≡ Some b))
  at_set [] i j a b e = absurd (none_some b e)
  at_set (x ∷ xs) zero zero a b e = inl (refl, some_same a b e)
  at_set (x ∷ xs) zero (suc j) a b e = inr ((λ h. omega arith), e)
  at_set (x ∷ xs) (suc i) zero a b e = inr ((λ h. omega arith), e)
  at_set (x ∷ xs) (suc i) (suc j) a b e =
      ⊎_elim (λ t. inl (ap suc t.0, t.1)) (λ t. let n = t.0 in inr ((λ h. n (omega arith)), t.1))
      (at_set xs i j a b e)

  pub set_else : (l : List A) (i j : ℕ) (a : A) → j ≢ i → slice_get (set l i a) j ≡ slice_get l j
  set_else [] i j a n = refl
  set_else (x ∷ xs) zero zero a n = absurd (n refl)
  set_else (x ∷ xs) zero (suc j) a n = refl
  set_else (x ∷ xs) (suc i) zero a n = refl
  set_else (x ∷ xs) (suc i) (suc j) a n = set_else xs i j a (λ e. n (ap suc e))

  pub set_again : (l : List A) (i : ℕ) (a : A) → slice_get l i ≡ Some a → set l i a ≡ l
  set_again [] i a e = refl
  set_again (x ∷ xs) zero a e = λ k. sym (some_same x a e) k ∷ xs
  set_again (x ∷ xs) (suc i) a e = λ k. x ∷ set_again xs i a e k

  pub same_at :
      (l : List A) (i : ℕ) (a b : A) → slice_get l i ≡ Some a → slice_get l i ≡ Some b → a ≡ b
  same_at l i a b p q = some_same a b (sym p ∙ q)

  pub set_found :
      (l : List A) (i : ℕ) (a b : A) → slice_get l i ≡ Some a → slice_get (set l i b) i ≡ Some b
  set_found [] i a b e = absurd (none_some a e)
  set_found (x ∷ xs) zero a b e = refl
  set_found (x ∷ xs) (suc i) a b e = set_found xs i a b e

  pub in_append :
      (xs ys : List A) (m : ℕ) (a : A)
      → slice_get (xs ++ ys) m ≡ Some a
      → ((j : ℕ) × (slice_get xs j ≡ Some a)) ⊎ ((j : ℕ) × (slice_get ys j ≡ Some a))
  in_append [] ys m a e = inr (m, e)
  in_append (x ∷ xs) ys zero a e = inl (zero, e)
  in_append (x ∷ xs) ys (suc m) a e =
      ⊎_elim (λ (t : (j : ℕ) × (slice_get xs j ≡ Some a)). inl (suc t.0, t.1))
      (λ (t : (j : ℕ) × (slice_get ys j ≡ Some a)). inr t) (in_append xs ys m a e)

  pub at_copies : (n i : ℕ) (d a : A) → slice_get (replicate n d) i ≡ Some a → d ≡ a
  at_copies zero i d a h = absurd (none_some a h)
  at_copies (suc n) zero d a h = some_same d a h
  at_copies (suc n) (suc i) d a h = at_copies n i d a h

pub at_mapped :
    {A B : Type 0} (f : A → B) (l : List A) (i : ℕ) (b : B)
    → slice_get (map f l) i ≡ Some b
    → (a : A) × (slice_get l i ≡ Some a) × (f a ≡ b)
at_mapped f [] i b h = absurd (none_some b h)
at_mapped f (x ∷ xs) zero b h = (x, refl, some_same (f x) b h)
at_mapped f (x ∷ xs) (suc i) b h = at_mapped f xs i b h

-- An option that is `Some`.
pub some_of : {A : Type 0} (o : Option A) → is_some o ≡ true → (x : A) × (o ≡ Some x)
some_of None h = absurd (cc)
some_of (Some x) h = (x, refl)
