-- Lengths of numbers of 32 bits.
use Rattle.std.proofs.Common.{◌≡◌, ℕ, zero, suc, ◌+◌, ◌/◌, ◌%◌, ◌^◌, ◌<◌, ◌≤◌, Bool, true, false, List, [], ◌∷◌, length, eqb, cond, arith, subst}
use Rattle.std.proofs.lemmas.Fmt.{length-decimal-le}
use Rattle.std.specs.Fmt.{decimal, digits, digits_onto, digit_glyph}
use Rattle.number_text.specs.Numbers.{hex}
use Rattle.number_text.proofs.NumberSteps.{fewer}

-- In base 10 they have at most 10 digits.
pub decimal_short : (n : ℕ) → n < 2 ^ 32 → length (decimal n) ≤ 10
decimal_short n small = length-decimal-le 10 n (omega arith) (omega arith) (omega arith)

-- A number below a power of 16 has at most as many digits in base 16.
either_short :
    (first : Bool) (xs ys : List ℕ) (most : ℕ)
    → length xs ≤ most
    → length ys ≤ most
    → length (cond first xs ys) ≤ most
either_short true xs ys most p q = p
either_short false xs ys most p q = q

onto_short :
    (k n m : ℕ) (acc : List ℕ)
    → n < 16 ^ (m + 1)
    → length (digits_onto k 16 false n acc) ≤ m + 1 + length acc
onto_short zero n m acc small = omega arith
onto_short (suc k) n zero acc small =
    let none : n / 16 ≡ 0 = omega arith in
    rw none (omega arith)
onto_short (suc k) n (suc m) acc small =
    let front : List ℕ = digit_glyph false (n % 16) ∷ acc in
    let power : suc m + 1 ≡ m + 1 + 1 = omega arith in
    let less : n / 16 < 16 ^ (m + 1) = fewer 16 n (m + 1) (omega arith)
    (subst (λ e. n < 16 ^ e) power small) in
    let rest : length (digits_onto k 16 false (n / 16) front) ≤ m + 1 + length front = onto_short k
    (n / 16) m front less in
    either_short (eqb (n / 16) 0) front (digits_onto k 16 false (n / 16) front)
    (suc m + 1 + length acc) (omega arith) (omega (arith, rest))

-- A number below 2 ^ 32 has at most 8 hexadecimal digits, which follow `0x`.
pub hex_short : (n : ℕ) → n < 2 ^ 32 → length (hex n) ≤ 10
unfolding digits
hex_short n small =
    let told : length (digits_onto 64 16 false n []) ≤ 8 = onto_short 64 n 7 [] (omega arith) in
    omega (arith, told)
