-- Lists of views, and sums over them.
use Rattle.std.proofs.Common.{◌≡◌, ◌≢◌, ℕ, zero, suc, ◌+◌, ◌≤◌, ◌==◌, if◌then◌else◌, Bool, true, false, List, [], ◌∷◌, ◌++◌, length, set, ⊎_elim, refl, sym, ap, ◌∙◌, arith, eq-eqb}
use Rattle.std.proofs.lemmas.Bool.{cases_Bool}
use mathlib.Core.Option.{some, some-injective, some-ne-none}
use Rattle.entry_lock.specs.declared.rule.View.{View}
use Rattle.entry_lock.specs.Views.{occurrences, total}
use Rattle.entry_lock.specs.Rule.{IsHead}
use lib.ListN.{get_elem?}

module _ {A : Type 0} where
  pub set_view :
      (l : List A) (i : ℕ) (a b : A) → get_elem? l i ≡ some a → get_elem? (set l i b) i ≡ some b
  set_view [] i a b e = absurd (some-ne-none a (sym e))
  set_view (x ∷ xs) zero a b e = refl
  set_view (x ∷ xs) (suc i) a b e = set_view xs i a b e

  pub same_view :
      (l : List A) (i : ℕ) (a b : A) → get_elem? l i ≡ some a → get_elem? l i ≡ some b → a ≡ b
  same_view l i a b p q = some-injective a b (sym p ∙ q)

-- ---- totals
pub total_one :
    (f : View → ℕ) (vs : List View) (j : ℕ) (v : View) → get_elem? vs j ≡ some v → f v ≤ total f vs
total_one f [] j v e = absurd (some-ne-none v (sym e))
total_one f (x ∷ xs) zero v e = let h : f x ≡ f v = ap f (some-injective x v e) in omega arith
total_one f (x ∷ xs) (suc j) v e = let h = total_one f xs j v e in omega arith

pub total_two :
    (f : View → ℕ) (vs : List View) (j l : ℕ) (u v : View)
    → j ≢ l
    → get_elem? vs j ≡ some u
    → get_elem? vs l ≡ some v
    → f u + f v ≤ total f vs
total_two f [] j l u v n e d = absurd (some-ne-none u (sym e))
total_two f (x ∷ xs) zero zero u v n e d = absurd (n refl)
total_two f (x ∷ xs) zero (suc l) u v n e d = let h :
    f x ≡ f u = ap f (some-injective x u e) in let t = total_one f xs l v d in omega arith
total_two f (x ∷ xs) (suc j) zero u v n e d = let h :
    f x ≡ f v = ap f (some-injective x v d) in let t = total_one f xs j u e in omega arith
total_two f (x ∷ xs) (suc j) (suc l) u v n e d =
    let t = total_two f xs j l u v (λ q. n (ap suc q)) e d in omega arith

pub total_set :
    (f : View → ℕ) (vs : List View) (j : ℕ) (v w : View)
    → get_elem? vs j ≡ some v
    → total f (set vs j w) + f v ≡ total f vs + f w
total_set f [] j v w e = absurd (some-ne-none v (sym e))
total_set f (x ∷ xs) zero v w e = let h : f x ≡ f v = ap f (some-injective x v e) in omega arith
total_set f (x ∷ xs) (suc j) v w e = let h = total_set f xs j v w e in omega arith

pub total_same :
    (f : View → ℕ) (vs : List View) (j : ℕ) (v w : View)
    → get_elem? vs j ≡ some v
    → f w ≡ f v
    → total f (set vs j w) ≡ total f vs
total_same f vs j v w at e = let h = total_set f vs j v w at in omega arith

pub total_more :
    (f : View → ℕ) (vs : List View) (v : View) → total f (vs ++ v ∷ []) ≡ total f vs + f v
total_more f [] v = omega arith
total_more f (x ∷ xs) v = let h = total_more f xs v in omega arith

-- ---- how often a number is in a list
-- How often k is in a list that has n alone.
abbrev pub one : ℕ → ℕ → ℕ
one k n = if n == k then 1 else 0

pub times_cons : (k n : ℕ) (ns : List ℕ) → occurrences k (n ∷ ns) ≡ one k n + occurrences k ns
times_cons k n ns =
    ⊎_elim {C = occurrences k (n ∷ ns) ≡ one k n + occurrences k ns}
    (λ (e : (n == k) ≡ true). rw e (omega arith)) (λ (e : (n == k) ≡ false). rw e (omega arith))
    (cases_Bool (n == k))

pub one_same : (k : ℕ) → one k k ≡ 1
one_same k = ap (λ (b : Bool). (let n : ℕ = if b then 1 else 0 in n)) (eq-eqb k k refl)

pub times_head : (n : ℕ) (ns : List ℕ) → 1 ≤ occurrences n (n ∷ ns)
times_head n ns = let c = times_cons n n ns in let o = one_same n in omega arith

pub times_both :
    (k : ℕ) (xs ys : List ℕ) → occurrences k (xs ++ ys) ≡ occurrences k xs + occurrences k ys
times_both k [] ys = omega arith
times_both k (x ∷ xs) ys =
    let h = times_both k xs ys in
    let a = times_cons k x (xs ++ ys) in
    let b = times_cons k x xs in
    omega arith

pub head_times : (l : List ℕ) (m : ℕ) → IsHead l m → 1 ≤ occurrences m l
head_times [] m e = absurd e
head_times (x ∷ xs) m e = let a = times_cons m x xs in let b :
    one m x ≡ 1 = ap (one m) e ∙ one_same m in omega arith

pub head_at : (numbers ns : List ℕ) (n m : ℕ) → numbers ≡ n ∷ ns → IsHead numbers m → n ≡ m
head_at [] ns n m e h = absurd h
head_at (x ∷ xs) ns n m e h = cc

pub head_length : (l : List ℕ) (n : ℕ) → IsHead l n → 1 ≤ length l
head_length [] n h = absurd h
head_length (x ∷ xs) n h = omega arith
