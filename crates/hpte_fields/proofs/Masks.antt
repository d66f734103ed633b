-- Masks, one after the other.
use Rattle.std.proofs.Common.{◌≡◌, ℕ, ◌+◌, ◌*◌, ◌/◌, ◌%◌, ◌^◌, ◌-◌, ◌<◌, arith, ap, ◌∙◌, bit_and, bit_or}
use Rattle.std.specs.Int.Bits.{and_mask, and_shr, and_mod, and_zero_l, and_zero_r}
use Rattle.std.proofs.lemmas.Nat.{and_block}
use Rattle.std.proofs.Math.Nat.{mod-mod}
use Rattle.std.proofs.lemmas.Nat.Bits.{same_from_bits, bit_at_and, bit_at_or}

-- Masked and set twice is masked and set once.
pub set_again : (x m o : ℕ) → bit_or (bit_and (bit_or (bit_and x m) o) m) o ≡ bit_or (bit_and x m) o
set_again x m o = same_from_bits _ _ (λ i. simp (bit_at_or, bit_at_and) (omega arith))

-- A mask of two numbers joined is that of each, joined.
pub mask_of_or : (a b m : ℕ) → bit_and (bit_or a b) m ≡ bit_or (bit_and a m) (bit_and b m)
mask_of_or a b m = same_from_bits _ _ (λ i. simp (bit_at_or, bit_at_and) (omega arith))

pub mask_again : (x m : ℕ) → bit_and (bit_and x m) m ≡ bit_and x m
mask_again x m = same_from_bits _ _ (λ i. simp bit_at_and (omega arith))

-- A field of n bits that lies inside a mask.
pub field_stays :
    (x m k n : ℕ) → m / 2 ^ k % 2 ^ n ≡ 2 ^ n - 1 → bit_and x m / 2 ^ k % 2 ^ n ≡ x / 2 ^ k % 2 ^ n
field_stays x m k n inside =
    ap (λ y. y % 2 ^ n) (and_shr x m k)
    ∙ and_mod (x / 2 ^ k) (m / 2 ^ k) n
    ∙ ap (λ y. bit_and (x / 2 ^ k % 2 ^ n) y) inside
    ∙ and_mask (x / 2 ^ k % 2 ^ n) n
    ∙ mod-mod (x / 2 ^ k) (2 ^ n)

-- What is shifted past a mask has nothing in it.
pub shifted_apart : (x k m : ℕ) → 0 < 2 ^ k → m < 2 ^ k → bit_and (x * 2 ^ k) m ≡ 0
shifted_apart x k m some small =
    let left : x * 2 ^ k ≡ x * 2 ^ k + 0 = omega arith in
    let right : m ≡ 0 * 2 ^ k + m = omega arith in
    ap (λ y. bit_and y m) left
    ∙ ap (λ y. bit_and (x * 2 ^ k + 0) y) right
    ∙ and_block k x 0 0 m some small
    ∙ rw (and_zero_r x, and_zero_l m) (omega arith)
