-- Facts of each element of a list.
use Rattle.std.specs.Prelude.{filter, replicate}
use Rattle.std.proofs.Common.{◌≡◌, ℕ, zero, suc, ◌<◌, ◌≤◌, List, [], ◌∷◌, ◌++◌, Bool, true, false, refl, sym, ◌∙◌, ◌⊎◌, inl, inr, get_or, set, map, length, arith}
use Rattle.std.specs.List.{AllByRecursion}
use Rattle.std.proofs.lemmas.Bool.{cases_Bool, cond_both, false≢true}

pub each_map :
    {A : Type 0} (P Q : A → Type 0) (xs : List A)
    → ((x : A) → P x → Q x)
    → AllByRecursion P xs
    → AllByRecursion Q xs
each_map P Q [] f h = tt
each_map P Q (x ∷ xs) f h = (f x h.0, each_map P Q xs f h.1)

pub each_append :
    {A : Type 0} (P : A → Type 0) (xs ys : List A)
    → AllByRecursion P xs
    → AllByRecursion P ys
    → AllByRecursion P (xs ++ ys)
each_append P [] ys h k = k
each_append P (x ∷ xs) ys h k = (h.0, each_append P xs ys h.1 k)

pub each_front :
    {A : Type 0} (P : A → Type 0) (xs ys : List A)
    → AllByRecursion P (xs ++ ys)
    → AllByRecursion P xs
each_front P [] ys h = tt
each_front P (x ∷ xs) ys h = (h.0, each_front P xs ys h.1)

pub each_back :
    {A : Type 0} (P : A → Type 0) (xs ys : List A)
    → AllByRecursion P (xs ++ ys)
    → AllByRecursion P ys
each_back P [] ys h = h
each_back P (x ∷ xs) ys h = each_back P xs ys h.1

pub each_set :
    {A : Type 0} (P : A → Type 0) (xs : List A) (i : ℕ) (v : A)
    → P v
    → AllByRecursion P xs
    → AllByRecursion P (set xs i v)
each_set P [] i v p h = tt
each_set P (x ∷ xs) zero v p h = (p, h.1)
each_set P (x ∷ xs) (suc i) v p h = (h.0, each_set P xs i v p h.1)

pub each_at :
    {A : Type 0} (P : A → Type 0) (xs : List A) (i : ℕ) (d : A)
    → P d
    → AllByRecursion P xs
    → P (get_or xs i d)
each_at P [] i d p h = p
each_at P (x ∷ xs) zero d p h = h.0
each_at P (x ∷ xs) (suc i) d p h = each_at P xs i d p h.1

-- The element at an index of the list has what each of its elements has.
pub each_within :
    {A : Type 0} (P : A → Type 0) (xs : List A) (i : ℕ) (d : A)
    → AllByRecursion P xs
    → i < length xs
    → P (get_or xs i d)
each_within P [] i d h k = absurd (omega arith)
each_within P (x ∷ xs) zero d h k = h.0
each_within P (x ∷ xs) (suc i) d h k = each_within P xs i d h.1 (omega arith)

-- What each has by its index, all have.
pub each_by_index :
    {A : Type 0} (P : A → Type 0) (xs : List A) (d : A)
    → ((k : ℕ) → k < length xs → P (get_or xs k d))
    → AllByRecursion P xs
each_by_index P [] d f = tt
each_by_index P (x ∷ xs) d f =
    (f 0 (omega arith), each_by_index P xs d (λ k low. f (suc k) (omega (arith, low))))

pub each_filter :
    {A : Type 0} (P : A → Type 0) (f : A → Bool) (xs : List A)
    → AllByRecursion P xs
    → AllByRecursion P (filter f xs)
each_filter P f [] h = tt
each_filter P f (x ∷ xs) h =
    cond_both (f x) (x ∷ filter f xs) (filter f xs) (AllByRecursion P)
    (λ e. (h.0, each_filter P f xs h.1)) (λ e. each_filter P f xs h.1)

-- What holds of each element that passes holds of the first, where it passes, and of each other
-- that does.
pub each_under :
    {A : Type 0} (P : A → Type 0) (f : A → Bool) (x : A) (xs : List A)
    → AllByRecursion P (filter f (x ∷ xs))
    → (f x ≡ true → P x) × AllByRecursion P (filter f xs)
each_under P f x xs = at (cases_Bool (f x)) where
  at :
      (f x ≡ true) ⊎ (f x ≡ false)
      → AllByRecursion P (filter f (x ∷ xs))
      → (f x ≡ true → P x) × AllByRecursion P (filter f xs)
  at (inl on) h =
      let k : AllByRecursion P (x ∷ filter f xs) = rw on at h in
      (λ _. k.0, k.1)
  at (inr off) h = (λ on. absurd (false≢true (sym off ∙ on)), rw off at h)

-- What holds of each element that passes holds of each, where it passes; and back.
pub each_where :
    {A : Type 0} (P : A → Type 0) (f : A → Bool) (xs : List A)
    → AllByRecursion P (filter f xs)
    → AllByRecursion (λ x. f x ≡ true → P x) xs
each_where P f [] h = tt
each_where P f (x ∷ xs) h =
    let k = each_under P f x xs h in
    (k.0, each_where P f xs k.1)

pub each_filtered :
    {A : Type 0} (P : A → Type 0) (f : A → Bool) (xs : List A)
    → AllByRecursion (λ x. f x ≡ true → P x) xs
    → AllByRecursion P (filter f xs)
each_filtered P f [] h = tt
each_filtered P f (x ∷ xs) h =
    cond_both (f x) (x ∷ filter f xs) (filter f xs) (AllByRecursion P)
    (λ on. (h.0 on, each_filtered P f xs h.1)) (λ off. each_filtered P f xs h.1)

-- Those that pass do so.
pub each_passes :
    {A : Type 0} (f : A → Bool) (xs : List A) → AllByRecursion (λ x. f x ≡ true) (filter f xs)
each_passes f [] = tt
each_passes f (x ∷ xs) =
    cond_both (f x) (x ∷ filter f xs) (filter f xs) (AllByRecursion (λ y. f y ≡ true))
    (λ on. (on, each_passes f xs)) (λ off. each_passes f xs)

pub each_both :
    {A : Type 0} (P Q : A → Type 0) (xs : List A)
    → AllByRecursion P xs
    → AllByRecursion Q xs
    → AllByRecursion (λ x. P x × Q x) xs
each_both P Q [] h k = tt
each_both P Q (x ∷ xs) h k = ((h.0, k.0), each_both P Q xs h.1 k.1)

pub each_of_map :
    {A B : Type 0} (P : B → Type 0) (f : A → B) (xs : List A)
    → ((x : A) → P (f x))
    → AllByRecursion P (map f xs)
each_of_map P f [] h = tt
each_of_map P f (x ∷ xs) h = (h x, each_of_map P f xs h)

pub filter_length : {A : Type 0} (f : A → Bool) (xs : List A) → length (filter f xs) ≤ length xs
filter_length f [] = omega arith
filter_length f (x ∷ xs) =
    cond_both (f x) (x ∷ filter f xs) (filter f xs) (λ l. length l ≤ length (x ∷ xs))
    (λ e. omega (arith, filter_length f xs)) (λ e. omega (arith, filter_length f xs))

pub each_replicate :
    {A : Type 0} (P : A → Type 0) (n : ℕ) (x : A) → P x → AllByRecursion P (replicate n x)
each_replicate P zero x h = tt
each_replicate P (suc n) x h = (h, each_replicate P n x h)

-- ---- filters
pub filter_yes :
    {A : Type 0} (f : A → Bool) (x : A) (xs : List A)
    → f x ≡ true
    → filter f (x ∷ xs) ≡ x ∷ filter f xs
filter_yes f x xs e = rw e refl

pub filter_no :
    {A : Type 0} (f : A → Bool) (x : A) (xs : List A)
    → f x ≡ false
    → filter f (x ∷ xs) ≡ filter f xs
filter_no f x xs e = rw e refl

-- Facts of a list and of its image.
pub over_map :
    {A B : Type 0} (P : A → Type 0) (Q : B → Type 0) (f : A → B) (xs : List A)
    → ((x : A) → P x → Q (f x))
    → AllByRecursion P xs
    → AllByRecursion Q (map f xs)
over_map P Q f [] g h = tt
over_map P Q f (x ∷ xs) g h = (g x h.0, over_map P Q f xs g h.1)

pub under_map :
    {A B : Type 0} (P : A → Type 0) (Q : B → Type 0) (f : A → B) (xs : List A)
    → ((x : A) → Q (f x) → P x)
    → AllByRecursion Q (map f xs)
    → AllByRecursion P xs
under_map P Q f [] g h = tt
under_map P Q f (x ∷ xs) g h = (g x h.0, under_map P Q f xs g h.1)
