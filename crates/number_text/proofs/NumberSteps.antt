-- The digits of a number in base 16, from the last to the first.
use Rattle.std.proofs.Common.{◌++◌, ◌≡◌, ℕ, zero, suc, ◌+◌, ◌/◌, ◌%◌, ◌^◌, ◌<◌, Bool, true, false, List, [], ◌∷◌, eqb, cond, refl, subst, arith, add-one}
use Rattle.std.proofs.Math.Nat.{pow-suc, div-lt_iff_lt-mul}
use Rattle.std.proofs.lemmas.Bool.{ne_eqb}
use Rattle.std.proofs.lemmas.Bool.Decides.{nat_tests}
use Rattle.std.proofs.lemmas.Str.Ascii.{IsAscii-cons, IsAscii-nil}
use Rattle.std.specs.Fmt.{decimal, digits, digits_onto, digit_glyph}
use Rattle.std.specs.Str.{IsAscii}
use Rattle.number_text.specs.Numbers.{hex}

-- ---- a loop's steps
-- A number below 16 has one digit.
pub digits_onto_last :
    (n : ℕ) (acc : List ℕ) (k : ℕ)
    → n / 16 ≡ 0
    → digits_onto (k + 1) 16 false n acc ≡ digit_glyph false (n % 16) ∷ acc
digits_onto_last n acc k none = rw (add-one, none)

-- A digit, with others in front of it.
pub digits_onto_step :
    (n : ℕ) (acc : List ℕ) (k : ℕ)
    → (n / 16 ≡ 0 → ⊥)
    → digits_onto (k + 1) 16 false n acc
    ≡ digits_onto k 16 false (n / 16) (digit_glyph false (n % 16) ∷ acc)
digits_onto_step n acc k more = rw (add-one, ne_eqb (n / 16) 0 more)

-- Digits in front of a text.
cond-append :
    (first : Bool) (xs ys more xs' ys' : List ℕ)
    → xs' ≡ xs ++ more
    → ys' ≡ ys ++ more
    → cond first xs' ys' ≡ cond first xs ys ++ more
cond-append true xs ys more xs' ys' p q = p
cond-append false xs ys more xs' ys' p q = q

pub digits_onto-append :
    (base k n : ℕ) (acc more : List ℕ)
    → digits_onto k base false n (acc ++ more) ≡ digits_onto k base false n acc ++ more
digits_onto-append base zero n acc more = refl
digits_onto-append base (suc k) n acc more =
    let front = digit_glyph false (n % base) ∷ acc in
    cond-append (eqb (n / base) 0) front (digits_onto k base false (n / base) front) more
    (front ++ more) (digits_onto k base false (n / base) (front ++ more)) refl
    (digits_onto-append base k (n / base) front more)

pub digits_onto_start :
    (n : ℕ) (more : List ℕ) → digits_onto 64 16 false n more ≡ digits 16 false n ++ more
unfolding digits
digits_onto_start n more = digits_onto-append 16 64 n [] more

-- Divided by the base a number has one digit fewer.
pub fewer : (base n k : ℕ) → 0 < base → n < base ^ (k + 1) → n / base < base ^ k
fewer base n k some small =
    let more : n < base ^ suc k = rw add-one at small in
    (div-lt_iff_lt-mul {k = base} {x = n} {y = base ^ k} some).1
    (subst (λ m. n < m) (pow-suc base k) more)

-- ---- digits are ASCII
glyph_IsAscii : (d : ℕ) → d < 16 → digit_glyph false d < 128
glyph_IsAscii d small = grind (arith, nat_tests)

either : (first : Bool) (xs ys : List ℕ) → IsAscii xs → IsAscii ys → IsAscii (cond first xs ys)
either true xs ys p q = p
either false xs ys p q = q

module _ (base : ℕ) (small : (n : ℕ) → n % base < 16) where
  onto_IsAscii : (k n : ℕ) (acc : List ℕ) → IsAscii acc → IsAscii (digits_onto k base false n acc)
  onto_IsAscii zero n acc told = told
  onto_IsAscii (suc k) n acc told =
      let more = IsAscii-cons (digit_glyph false (n % base)) acc
      (glyph_IsAscii (n % base) (small n)) told in
      either (eqb (n / base) 0) _ _ more (onto_IsAscii k (n / base) _ more)

pub decimal_IsAscii : (n : ℕ) → IsAscii (decimal n)
unfolding digits
decimal_IsAscii n = onto_IsAscii 10 (λ m. omega arith) 64 n [] IsAscii-nil

pub hex_IsAscii : (n : ℕ) → IsAscii (hex n)
unfolding digits
hex_IsAscii n =
    let told : IsAscii (digits_onto 64 16 false n []) = onto_IsAscii 16 (λ m. omega arith) 64 n []
    IsAscii-nil in
    IsAscii-cons 48 (120 ∷ digits_onto 64 16 false n []) (omega arith)
    (IsAscii-cons 120 (digits_onto 64 16 false n []) (omega arith) told)
