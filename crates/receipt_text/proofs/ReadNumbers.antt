-- A number that is read from its first digit on.
use Rattle.std.proofs.Common.{◌≡◌, ℕ, zero, suc, ◌+◌, ◌*◌, ◌^◌, ◌<◌, ◌≤◌, ◌++◌, List, [], ◌∷◌, false, get_or, length, take, refl, sym, ◌∙◌, ap, subst, arith}
use Rattle.std.specs.Fmt.{digits, digit_glyph}
use Rattle.std.specs.Char.{digit_value}
use Rattle.std.specs.Str.Parse.{digits_value}
use Rattle.std.proofs.lemmas.Fmt.{digits_is_IsNumeral}
use Rattle.std.proofs.lemmas.Int.Digits.{digits_value_more}
use Rattle.std.proofs.lemmas.List.{take_more}
use Rattle.std.proofs.lemmas.Str.Parse.{digits_value-take-le}
use Rattle.std.proofs.Math.Nat.{pow-le-pow_left, one-le-mul}
use Rattle.receipt_text.proofs.DigitSteps.{IsDigit, glyph_value, digits_one, digits_push, digits_first, digits_each}

-- Of 32 bits it fits in 32 digits and more.
fits : (base k n : ℕ) → 2 ≤ base → 2 ^ 32 ≤ 2 ^ k → n < 2 ^ 32 → n < base ^ k
fits base k n low wide small =
    let more : 2 ^ k ≤ base ^ k = pow-le-pow_left low k in
    omega (arith, more)

-- ---- what was read
-- The first i bytes of the word have this value. If i isn't 0 they are the digits that spell it,
-- and it is above 0 in a word of several bytes.
pub record AreReadTo (base : ℕ) (word : List ℕ) (i value : ℕ) : Type 0 where
  pub worth : value ≡ digits_value base (take i word)
  pub some : 0 < i → 1 < length word → 0 < value
  pub written : 0 < i → digits base false value ≡ take i word

pub read_more :
    (base : ℕ) (word : List ℕ) (i v d : ℕ)
    → 2 ≤ base
    → base ≤ 16
    → i < length word
    → v < 2 ^ 32
    → d < base
    → digit_glyph false d ≡ get_or word i 0
    → (1 < length word → get_or word 0 0 ≡ 48 → ⊥)
    → AreReadTo base word i v
    → AreReadTo base word (i + 1) (v * base + d)
read_more base word i v d low high within small less is first h = record {
  worth = worth;
  some = λ begun long. at_least i h within is long;
  written = λ begun. digits_at i h within is;
} where
  worth : v * base + d ≡ digits_value base (take (i + 1) word)
  worth =
      let value : digit_value (get_or word i 0) ≡ d = ap digit_value (sym is) ∙ glyph_value d
      (omega arith) in
      rw (digits_value_more base word i within, ← h.worth, value) refl

  at_least :
      (j : ℕ)
      → AreReadTo base word j v
      → j < length word
      → digit_glyph false d ≡ get_or word j 0
      → 1 < length word
      → 0 < v * base + d
  at_least zero k inside glyph long =
      let other : d ≡ 0 → ⊥ = λ none. first long (sym glyph ∙ ap (digit_glyph false) none) in
      grind (arith, other)
  at_least (suc j) k inside glyph long =
      let more : 0 < v = k.some (omega arith) long in
      let product : 1 ≤ v * base = one-le-mul (omega arith) (omega arith) in
      omega (arith, product)

  digits_at :
      (j : ℕ)
      → AreReadTo base word j v
      → j < length word
      → digit_glyph false d ≡ get_or word j 0
      → digits base false (v * base + d) ≡ take (j + 1) word
  digits_at zero k inside glyph =
      let none : v ≡ 0 = k.worth in
      let only : v * base + d ≡ d = rw none (omega arith) in
      ap (digits base false) only
      ∙ digits_one base d less
      ∙ ap (λ c. c ∷ []) glyph
      ∙ sym (take_more word 0 0 inside)
  digits_at (suc j) k inside glyph =
      let more : 0 < v = k.some (omega arith) (omega arith) in
      digits_push base v d more (fits base 63 v low (omega arith) small) less
      ∙ ap (λ ds. ds ++ digit_glyph false d ∷ []) (k.written (omega arith))
      ∙ ap (λ c. take (suc j) word ++ c ∷ []) glyph
      ∙ sym (take_more word (suc j) 0 inside)

-- ---- what can't be a number
pub no_digits :
    (base n : ℕ) (word : List ℕ)
    → 2 ≤ base
    → base ≤ 16
    → n < 2 ^ 32
    → length word ≡ 0
    → digits base false n ≡ word
    → ⊥
no_digits base n word low high small none is =
    let numeral = digits_is_IsNumeral base false low high n (fits base 64 n low (omega arith) small)
    in
    omega (arith, numeral.0.0, ap length is)

pub leading_zero :
    (base n : ℕ) (word : List ℕ)
    → 2 ≤ base
    → base ≤ 16
    → n < 2 ^ 32
    → 1 < length word
    → get_or word 0 0 ≡ 48
    → digits base false n ≡ word
    → ⊥
leading_zero base n [] low high small long first is = omega arith
leading_zero base zero (c ∷ cs) low high small long first is =
    omega (arith, ap length (sym (digits_one base 0 (omega arith)) ∙ is))
leading_zero base (suc n) (c ∷ cs) low high small long first is =
    digits_first base (suc n) cs (omega arith) high (omega arith)
    (fits base 64 (suc n) low (omega arith) small) (is ∙ ap (λ x. x ∷ cs) first)

pub no_digit :
    (base n i c : ℕ) (word : List ℕ)
    → 0 < base
    → i < length word
    → c ≡ get_or word i 0
    → ((d : ℕ) → d < base → digit_glyph false d ≡ c → ⊥)
    → digits base false n ≡ word
    → ⊥
no_digit base n i c word some within at none is =
    let digit : IsDigit base (get_or word i 0) = subst (λ ds. IsDigit base (get_or ds i 0)) is
    (digits_each base n i some (omega (arith, ap length is))) in
    none digit.value digit.low (digit.is ∙ sym at)

pub too_large :
    (base n i v : ℕ) (word : List ℕ)
    → 2 ≤ base
    → base ≤ 16
    → n < 2 ^ 32
    → 2 ^ 32 ≤ v
    → AreReadTo base word i v
    → digits base false n ≡ word
    → ⊥
too_large base n i v word low high small large h is =
    let numeral = digits_is_IsNumeral base false low high n (fits base 64 n low (omega arith) small)
    in
    let value : digits_value base word ≡ n = ap (digits_value base) (sym is) ∙ numeral.1 in
    omega (arith, h.worth, value, digits_value-take-le base word i (omega arith))
