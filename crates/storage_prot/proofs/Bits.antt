-- The tests of the code, bit by bit, against the table.
use Rattle.std.proofs.Common.{◌≡◌, ℕ, zero, suc, ◌<◌, Bool, true, false, not, bit_and, refl, arith}
use Rattle.std.specs.Prelude.{◌==◌, ◌&&◌, ◌||◌, if◌then◌else◌}
use Rattle.storage_prot.specs.Protection.{rows, permission, may_read, may_write}

-- What holds of three bits, by their eight values.
by_bits :
    (P : ℕ → Type 0) → P 0 → P 1 → P 2 → P 3 → P 4 → P 5 → P 6 → P 7 → (pp : ℕ) → pp < 8 → P pp
by_bits P a b c d e f g h zero small = a
by_bits P a b c d e f g h (suc zero) small = b
by_bits P a b c d e f g h (suc (suc zero)) small = c
by_bits P a b c d e f g h (suc (suc (suc zero))) small = d
by_bits P a b c d e f g h (suc (suc (suc (suc zero)))) small = e
by_bits P a b c d e f g h (suc (suc (suc (suc (suc zero))))) small = f
by_bits P a b c d e f g h (suc (suc (suc (suc (suc (suc zero)))))) small = g
by_bits P a b c d e f g h (suc (suc (suc (suc (suc (suc (suc zero))))))) small = h
by_bits P a b c d e f g h (suc (suc (suc (suc (suc (suc (suc (suc pp)))))))) small =
    absurd (omega arith)

-- The three protection bits and the key allow loads, by tests of single bits.
abbrev pub reads_by_bits : ℕ → Bool → Bool
reads_by_bits pp key =
    if bit_and pp 4 == 0 then not key || not (bit_and pp 3 == 0) else (bit_and pp 3 == 2) && not key

-- The three protection bits and the key allow stores, by tests of single bits.
abbrev pub writes_by_bits : ℕ → Bool → Bool
writes_by_bits pp key =
    (bit_and pp 4 == 0) && not (bit_and pp 3 == 3) && (not key || not (bit_and pp 2 == 0))

pub reads_is : (pp : ℕ) (key : Bool) → pp < 8 → may_read (permission pp key) ≡ reads_by_bits pp key
unfolding permission rows
reads_is pp true small =
    by_bits (λ p. may_read (permission p true) ≡ reads_by_bits p true) refl refl refl refl refl refl
    refl refl pp small
reads_is pp false small =
    by_bits (λ p. may_read (permission p false) ≡ reads_by_bits p false) refl refl refl refl refl
    refl refl refl pp small

pub writes_is :
    (pp : ℕ) (key : Bool) → pp < 8 → may_write (permission pp key) ≡ writes_by_bits pp key
unfolding permission rows
writes_is pp true small =
    by_bits (λ p. may_write (permission p true) ≡ writes_by_bits p true) refl refl refl refl refl
    refl refl refl pp small
writes_is pp false small =
    by_bits (λ p. may_write (permission p false) ≡ writes_by_bits p false) refl refl refl refl refl
    refl refl refl pp small
