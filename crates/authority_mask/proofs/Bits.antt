-- The tests of the code, bit by bit, against the table.
use Rattle.std.proofs.Common.{◌≡◌, ℕ, zero, suc, ◌<◌, not, bit_and, refl, arith}
use Rattle.std.specs.Prelude.{◌==◌}
use Rattle.authority_mask.specs.Authority.{Row, key_rows, row_says}

-- What holds of two bits, by their four values.
by_bits : (P : ℕ → Type 0) → P 0 → P 1 → P 2 → P 3 → (bits : ℕ) → bits < 4 → P bits
by_bits P a b c d zero small = a
by_bits P a b c d (suc zero) small = b
by_bits P a b c d (suc (suc zero)) small = c
by_bits P a b c d (suc (suc (suc zero))) small = d
by_bits P a b c d (suc (suc (suc (suc bits)))) small = absurd (omega arith)

pub first_is :
    (bits : ℕ) → bits < 4 → row_says (λ (row : Row). row.stores) bits ≡ not (bit_and bits 2 == 0)
unfolding row_says key_rows
first_is bits small =
    by_bits (λ b. row_says (λ (row : Row). row.stores) b ≡ not (bit_and b 2 == 0)) refl refl refl
    refl bits small

pub second_is :
    (bits : ℕ) → bits < 4 → row_says (λ (row : Row). row.loads) bits ≡ not (bit_and bits 1 == 0)
unfolding row_says key_rows
second_is bits small =
    by_bits (λ b. row_says (λ (row : Row). row.loads) b ≡ not (bit_and b 1 == 0)) refl refl refl
    refl bits small

pub fetch_is :
    (bits : ℕ) → bits < 4 → row_says (λ (row : Row). row.fetches) bits ≡ not (bit_and bits 1 == 0)
unfolding row_says key_rows
fetch_is bits small =
    by_bits (λ b. row_says (λ (row : Row). row.fetches) b ≡ not (bit_and b 1 == 0)) refl refl refl
    refl bits small
