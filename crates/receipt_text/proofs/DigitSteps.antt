-- The digits of a number, from the first to the last.
use Rattle.std.proofs.Common.{◌≡◌, ℕ, zero, suc, ◌+◌, ◌*◌, ◌/◌, ◌%◌, ◌^◌, ◌<◌, ◌≤◌, ◌++◌, List, [], ◌∷◌, false, eqb, cond, get_or, length, refl, sym, ◌∙◌, ap, subst, arith}
use Rattle.std.specs.List.{AllByRecursion}
use Rattle.std.specs.Fmt.{digits, digits_onto, digit_glyph}
use Rattle.std.specs.Char.{digit_value}
use Rattle.std.proofs.lemmas.Bool.{cond_both, eqb-true, ne_eqb}
use Rattle.std.proofs.lemmas.Bool.Decides.{nat_tests}
use Rattle.std.proofs.lemmas.Nat.{div-mul-add, mod-mul-add, div-add-mod'}
use Rattle.std.proofs.lemmas.Str.{digit_value-digit_char}
use Rattle.std.proofs.Math.Nat.{div-eq_of_lt, mod-lt, mod-eq_of_lt, pow-zero}
use Rattle.number_text.proofs.NumberSteps.{digits_onto-append, fewer}
use Rattle.basics.proofs.Each.{each_within}

-- ---- one digit
pub glyph_value : (d : ℕ) → d < 16 → digit_value (digit_glyph false d) ≡ d
glyph_value d small = digit_value-digit_char d (omega arith)

pub one_glyph : (d e : ℕ) → d < 16 → e < 16 → digit_glyph false d ≡ digit_glyph false e → d ≡ e
one_glyph d e small small' same =
    sym (glyph_value d small) ∙ ap digit_value same ∙ glyph_value e small'

-- The number below the base has one digit.
pub digits_one : (base d : ℕ) → d < base → digits base false d ≡ digit_glyph false d ∷ []
unfolding digits
digits_one base d small =
    let none : d / base ≡ 0 = div-eq_of_lt small in
    let same : d % base ≡ d = mod-eq_of_lt small in
    rw (none, same) refl

-- ---- a digit after others
-- Nothing is left after the last digit.
none_left : (base n : ℕ) → 0 < base → n < base ^ (0 + 1) → n / base ≡ 0
none_left base n some small =
    let less : n / base < base ^ 0 = fewer base n 0 some small in
    omega (arith, less, pow-zero base)

-- More steps than a number has digits change nothing.
more_steps :
    (base k n : ℕ) (acc : List ℕ)
    → 0 < base
    → n < base ^ (k + 1)
    → digits_onto (suc (suc k)) base false n acc ≡ digits_onto (suc k) base false n acc
more_steps base zero n acc some small =
    rw (none_left base n some small) refl
more_steps base (suc k) n acc some small =
    let power : suc k + 1 ≡ k + 1 + 1 = omega arith in
    let less : n / base < base ^ (k + 1) = fewer base n (k + 1) some
    (subst (λ e. n < base ^ e) power small) in
    let front : List ℕ = digit_glyph false (n % base) ∷ acc in
    ap (λ xs. cond (eqb (n / base) 0) front xs) (more_steps base k (n / base) front some less)

pub digits_push :
    (base n d : ℕ)
    → 0 < n
    → n < base ^ 63
    → d < base
    → digits base false (n * base + d) ≡ digits base false n ++ digit_glyph false d ∷ []
unfolding digits
digits_push base n d some small low =
    let front : (n * base + d) / base ≡ n = div-mul-add n base d low in
    let last : (n * base + d) % base ≡ d = mod-mul-add n base d low in
    let more : eqb ((n * base + d) / base) 0 ≡ false = rw front (ne_eqb n 0 (λ e. omega (arith, e)))
    in
    let step : digits_onto 64 base false (n * base + d) [] ≡ digits_onto 63 base false n
    (digit_glyph false d ∷ []) = rw more
    (λ i. digits_onto 63 base false (front i) (digit_glyph false (last i) ∷ [])) in
    step
    ∙ sym (more_steps base 62 n (digit_glyph false d ∷ []) (omega arith) small)
    ∙ digits_onto-append base 64 n [] (digit_glyph false d ∷ [])

-- ---- the first digit
last_first :
    (base n : ℕ) (acc rest : List ℕ)
    → 0 < base
    → base ≤ 16
    → 0 < n
    → n / base ≡ 0
    → digit_glyph false (n % base) ∷ acc ≡ 48 ∷ rest
    → ⊥
last_first base n acc rest some high more none same =
    let low : n % base < base = mod-lt n some in
    let sum : n / base * base + n % base ≡ n = div-add-mod' n base in
    let whole : 0 * base + n % base ≡ n = rw none at sum in
    let is : n % base ≡ n = omega (arith, whole) in
    let glyph : digit_glyph false (n % base) ≡ 48 = cc in
    let zero' : n % base ≡ 0 = one_glyph (n % base) 0 (omega arith) (omega arith) glyph in
    omega (arith, is, zero')

onto_first :
    (base k n : ℕ) (acc rest : List ℕ)
    → 0 < base
    → base ≤ 16
    → 0 < n
    → n < base ^ (k + 1)
    → digits_onto (suc k) base false n acc ≡ 48 ∷ rest
    → ⊥
onto_first base zero n acc rest some high more small =
    let none : n / base ≡ 0 = none_left base n some small in
    rw none (last_first base n acc rest some high more none)
onto_first base (suc k) n acc rest some high more small =
    let power : suc k + 1 ≡ k + 1 + 1 = omega arith in
    let less : n / base < base ^ (k + 1) = fewer base n (k + 1) some
    (subst (λ e. n < base ^ e) power small) in
    let front : List ℕ = digit_glyph false (n % base) ∷ acc in
    cond_both (eqb (n / base) 0) front (digits_onto (suc k) base false (n / base) front)
    (λ xs. xs ≡ 48 ∷ rest → ⊥)
    (λ e. last_first base n acc rest some high more (eqb-true (n / base) 0 e))
    (λ e. onto_first base k (n / base) front rest some high (grind (arith, nat_tests, e)) less)

-- Of a number above 0 it isn't 0.
pub digits_first :
    (base n : ℕ) (rest : List ℕ)
    → 0 < base
    → base ≤ 16
    → 0 < n
    → n < base ^ 64
    → digits base false n ≡ 48 ∷ rest
    → ⊥
unfolding digits
digits_first base n rest some high more small = onto_first base 63 n [] rest some high more small

-- ---- each digit
-- The byte is the lower-case digit of a value below the base.
pub record IsDigit (base c : ℕ) : Type 0 where
  pub value : ℕ
  pub low : value < base
  pub is : digit_glyph false value ≡ c

onto_each :
    (base : ℕ)
    → 0 < base
    → (k n : ℕ) (acc : List ℕ)
    → AllByRecursion (IsDigit base) acc
    → AllByRecursion (IsDigit base) (digits_onto k base false n acc)
onto_each base some zero n acc h = h
onto_each base some (suc k) n acc h =
    let more : AllByRecursion (IsDigit base) (digit_glyph false (n % base) ∷ acc) =
    (record { value = n % base; low = mod-lt n some; is = refl }, h) in
    cond_both (eqb (n / base) 0) (digit_glyph false (n % base) ∷ acc)
    (digits_onto k base false (n / base) (digit_glyph false (n % base) ∷ acc))
    (AllByRecursion (IsDigit base)) (λ e. more)
    (λ e. onto_each base some k (n / base) (digit_glyph false (n % base) ∷ acc) more)

pub digits_each :
    (base n i : ℕ)
    → 0 < base
    → i < length (digits base false n)
    → IsDigit base (get_or (digits base false n) i 0)
unfolding digits
digits_each base n i some within =
    each_within (IsDigit base) (digits_onto 64 base false n []) i 0
    (onto_each base some 64 n [] tt) within
