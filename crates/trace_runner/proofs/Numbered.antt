-- Facts of each of a list by its number.
use Rattle.std.proofs.Common.{◌≡◌, ◌≢◌, ℕ, zero, suc, ◌+◌, ◌<◌, ◌≤◌, List, [], ◌∷◌, ◌++◌, length, get_or, set, cond, eqb, refl, sym, subst, arith}
use Rattle.std.proofs.lemmas.Bool.{eq-eqb}
use Rattle.std.specs.List.{AllByRecursion}
use Rattle.trace_runner.specs.Workers.{AllNumbered}
use Rattle.run_model.proofs.StoreNumbers.{not_eqb}

pub all_append :
    {A : Type 0} (P : ℕ → A → Type 0) (n m : ℕ) (xs ys : List A)
    → m ≡ n + length xs
    → AllNumbered P n xs
    → AllNumbered P m ys
    → AllNumbered P n (xs ++ ys)
all_append P n m [] ys e h k = let s :
    m ≡ n = omega (arith, e) in subst (λ i. AllNumbered P i ys) s k
all_append P n m (x ∷ xs) ys e h k = (h.0, all_append P (suc n) m xs ys (omega (arith, e)) h.1 k)

pub all_front :
    {A : Type 0} (P : ℕ → A → Type 0) (n : ℕ) (xs ys : List A)
    → AllNumbered P n (xs ++ ys)
    → AllNumbered P n xs
all_front P n [] ys h = tt
all_front P n (x ∷ xs) ys h = (h.0, all_front P (suc n) xs ys h.1)

pub all_back :
    {A : Type 0} (P : ℕ → A → Type 0) (n m : ℕ) (xs ys : List A)
    → m ≡ n + length xs
    → AllNumbered P n (xs ++ ys)
    → AllNumbered P m ys
all_back P n m [] ys e h = let s : n ≡ m = omega (arith, e) in subst (λ i. AllNumbered P i ys) s h
all_back P n m (x ∷ xs) ys e h = all_back P (suc n) m xs ys (omega (arith, e)) h.1

pub all_push :
    {A : Type 0} (P : ℕ → A → Type 0) (n : ℕ) (xs : List A) (x : A)
    → AllNumbered P n xs
    → P (n + length xs) x
    → AllNumbered P n (xs ++ x ∷ [])
all_push P n [] x h k = let e : n + 0 ≡ n = omega arith in (subst (λ m. P m x) e k, tt)
all_push P n (y ∷ ys) x h k = let e :
    n + suc (length ys) ≡ suc n + length ys =
    omega arith in (h.0, all_push P (suc n) ys x h.1 (subst (λ m. P m x) e k))

pub all_weaker :
    {A : Type 0} (P Q : ℕ → A → Type 0) (n : ℕ) (xs : List A)
    → ((k : ℕ) (x : A) → P k x → Q k x)
    → AllNumbered P n xs
    → AllNumbered Q n xs
all_weaker P Q n [] f h = tt
all_weaker P Q n (x ∷ xs) f h = (f n x h.0, all_weaker P Q (suc n) xs f h.1)

pub all_both :
    {A : Type 0} (P Q : ℕ → A → Type 0) (n : ℕ) (xs : List A)
    → AllNumbered P n xs
    → AllNumbered Q n xs
    → AllNumbered (λ k x. P k x × Q k x) n xs
all_both P Q n [] h k = tt
all_both P Q n (x ∷ xs) h k = ((h.0, k.0), all_both P Q (suc n) xs h.1 k.1)

pub all_plain :
    {A : Type 0} (P : ℕ → A → Type 0) (Q : A → Type 0) (n : ℕ) (xs : List A)
    → ((k : ℕ) (x : A) → P k x → Q x)
    → AllNumbered P n xs
    → AllByRecursion Q xs
all_plain P Q n [] f h = tt
all_plain P Q n (x ∷ xs) f h = (f n x h.0, all_plain P Q (suc n) xs f h.1)

pub all_of :
    {A : Type 0} (P : ℕ → Type 0) (n : ℕ) (xs : List A)
    → ((k : ℕ) → k < n + length xs → P k)
    → AllNumbered (λ k x. P k) n xs
all_of P n [] f = tt
all_of P n (x ∷ xs) f = (f n (omega arith), all_of P (suc n) xs (λ k low. f k (omega (arith, low))))

pub all_later :
    {A : Type 0} (P Q : ℕ → A → Type 0) (n m : ℕ) (xs : List A)
    → ((k : ℕ) (x : A) → n ≤ k → P k x → Q k x)
    → n ≤ m
    → AllNumbered P m xs
    → AllNumbered Q m xs
all_later P Q n m [] f low h = tt
all_later P Q n m (x ∷ xs) f low h =
    (f m x low h.0, all_later P Q n (suc m) xs f (omega (arith, low)) h.1)

pub all_inside :
    {A : Type 0} (P Q : ℕ → A → Type 0) (n : ℕ) (xs : List A)
    → ((k : ℕ) (x : A) → k < n + length xs → P k x → Q k x)
    → AllNumbered P n xs
    → AllNumbered Q n xs
all_inside P Q n [] f h = tt
all_inside P Q n (x ∷ xs) f h = (
  f n x (omega arith) h.0,
  all_inside P Q (suc n) xs (λ k y low p. f k y (omega (arith, low)) p) h.1,
)

-- One of them is changed.
pub all_set :
    {A : Type 0} (P Q : ℕ → A → Type 0) (n m i : ℕ) (xs : List A) (x y : A)
    → m ≡ n + i
    → i < length xs
    → x ≡ get_or xs i x
    → ((k : ℕ) (z : A) → k ≢ m → P k z → Q k z)
    → (P m x → Q m y)
    → AllNumbered P n xs
    → AllNumbered Q n (set xs i y)
all_set P Q n m i [] x y e low is other here h = absurd (omega (arith, low))
all_set P Q n m zero (z ∷ zs) x y e low is other here h =
    let same : m ≡ n = omega (arith, e) in (
      subst (λ k. Q k y) same (here (subst (λ k. P k x) (sym same) (subst (P n) (sym is) h.0))),
      all_later P Q (suc n) (suc n) zs
          (λ k a low p. other k a (λ at. absurd (omega (arith, low, at, same))) p) (omega arith)
          h.1,
    )
all_set P Q n m (suc i) (z ∷ zs) x y e low is other here h = (
  other n z (λ at. absurd (omega (arith, at, e))) h.0,
  all_set P Q (suc n) m i zs x y (omega (arith, e)) (omega (arith, low)) is other here h.1,
)

-- The one at an index has its fact.
pub all_at :
    {A : Type 0} (P : ℕ → A → Type 0) (n m i : ℕ) (xs : List A) (x : A)
    → m ≡ n + i
    → i < length xs
    → x ≡ get_or xs i x
    → AllNumbered P n xs
    → P m x
all_at P n m i [] x e low is h = absurd (omega (arith, low))
all_at P n m zero (y ∷ ys) x e low is h = let same :
    n ≡ m = omega (arith, e) in subst (λ k. P k x) same (subst (P n) (sym is) h.0)
all_at P n m (suc i) (y ∷ ys) x e low is h =
    all_at P (suc n) m i ys x (omega (arith, e)) (omega (arith, low)) is h.1

-- At an index of the list there is an element, with the fact of its number.
pub all_has :
    {A : Type 0} (P : ℕ → A → Type 0) (n i : ℕ) (xs : List A)
    → i < length xs
    → AllNumbered P n xs
    → (x : A) × P (n + i) x
all_has P n i [] low h = absurd (omega (arith, low))
all_has P n zero (x ∷ xs) low h = let e :
    n ≡ n + 0 = omega arith in (x, subst (λ m. P m x) e h.0)
all_has P n (suc i) (x ∷ xs) low h =
    let e : suc n + i ≡ n + suc i = omega arith in
    let rest = all_has P (suc n) i xs (omega (arith, low)) h.1 in
    (rest.0, subst (λ m. P m rest.0) e rest.1)

-- ---- what each has
-- By its number one thing is picked for each, of which it has the fact.
pub record Picked {A B : Type 0} (P : ℕ → B → A → Type 0) (n : ℕ) (xs : List A) : Type 0 where
  pub pick : ℕ → B
  pub all : AllNumbered (λ k x. P k (pick k) x) n xs

pub first_pick : {B : Type 0} (n : ℕ) (b : B) (f : ℕ → B) → b ≡ cond (eqb n n) b (f n)
first_pick n b f = rw (eq-eqb n n refl) refl

pub later_pick :
    {B : Type 0} (n k : ℕ) (b : B) (f : ℕ → B) → suc n ≤ k → f k ≡ cond (eqb k n) b (f k)
later_pick n k b f low = rw (not_eqb k n (λ e. absurd (omega (arith, low, e)))) refl

pub all_picked :
    {A B : Type 0} (P : ℕ → B → A → Type 0) (d : B) (n : ℕ) (xs : List A)
    → AllNumbered (λ k x. (b : B) × P k b x) n xs
    → Picked P n xs
all_picked P d n [] h = record { pick = λ k. d; all = tt }
all_picked {B = B} P d n (x ∷ xs) h =
    let rest = all_picked P d (suc n) xs h.1 in
    let f : ℕ → B = rest.pick in
    let pick : ℕ → B = λ k. cond (eqb k n) h.0.0 (f k) in
    record {
      pick = pick;
      all = (
        subst (λ b. P n b x) (first_pick n h.0.0 f) h.0.1,
        all_later (λ k y. P k (f k) y) (λ k y. P k (pick k) y) (suc n) (suc n) xs
            (λ k y low p. subst (λ b. P k b y) (later_pick n k h.0.0 f low) p) (omega arith)
            rest.all,
      );
    }
