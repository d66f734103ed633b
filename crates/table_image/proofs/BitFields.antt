-- Fields of bits: B's place in the newer layout, and what that layout leaves out.
use Rattle.std.proofs.Common.{◌≡◌, ℕ, ◌+◌, ◌*◌, ◌/◌, ◌%◌, ◌^◌, ◌<◌, arith, ap, sym, ◌∙◌, refl, lit<, bit_and, bit_or}
use Rattle.std.specs.Int.Bits.{and_mask, and_shr, and_zero_r, or_zero_r, and_comm, or_disjoint}
use Rattle.std.proofs.lemmas.Nat.{and_block, and_assoc}
use Rattle.hpte_fields.proofs.Masks.{mask_of_or, shifted_apart}
use Rattle.table_image.specs.Layouts.{unheld, segment_bits, cleared_bit, left_out}

-- What is clear in a mask is clear in a part of it.
clear_within : (x m part : ℕ) → bit_and m part ≡ part → bit_and x m ≡ 0 → bit_and x part ≡ 0
clear_within x m part inside none =
    ap (bit_and x) (sym inside) ∙ sym (and_assoc part x m) ∙ ap (λ y. bit_and y part) none

-- B, moved to its place, stands inside the place.
within_bits : (s : ℕ) → s < 4 → bit_and segment_bits (s * 2 ^ 58) ≡ s * 2 ^ 58
within_bits s small =
    let moved : s * 2 ^ 58 + 0 ≡ s * 2 ^ 58 = omega arith in
    let kept : bit_and 3 s ≡ s = and_comm 3 s ∙ and_mask s 2 ∙ omega arith in
    ap (bit_and segment_bits) (sym moved)
    ∙ and_block 58 3 s 0 0 (lit< tt) (lit< tt)
    ∙ rw kept moved

-- Doubleword 1 and B at its place.
pub bits_joined :
    (l s : ℕ) → s < 4 → bit_and l segment_bits ≡ 0 → bit_or l (s * 2 ^ 58) ≡ l + s * 2 ^ 58
bits_joined l s small none =
    or_disjoint l (s * 2 ^ 58)
    (clear_within l segment_bits (s * 2 ^ 58) (within_bits s small) none)

-- A field whose mask is clear is 0.
bits_clear : (l : ℕ) → bit_and l segment_bits ≡ 0 → l / 2 ^ 58 % 2 ^ 2 ≡ 0
bits_clear l none =
    sym (and_mask (l / 2 ^ 58) 2) ∙ sym (and_shr l segment_bits 58) ∙ ap (λ y. y / 2 ^ 58) none

unheld_clear : (h : ℕ) → bit_and h unheld ≡ 0 → h / 2 ^ 52 % 2 ^ 10 ≡ 0
unheld_clear h none =
    sym (and_mask (h / 2 ^ 52) 10) ∙ sym (and_shr h unheld 52) ∙ ap (λ y. y / 2 ^ 52) none

-- Doubleword 1 with B at its place is one of 64 bits.
pub bits_fit :
    (l s : ℕ) → l < 2 ^ 64 → s < 4 → bit_and l segment_bits ≡ 0 → l + s * 2 ^ 58 < 2 ^ 64
bits_fit l s fits small none = let clear = bits_clear l none in omega arith

-- ---- what is read back
-- B is read where it was put.
pub segment_back :
    (l s : ℕ) → s < 4 → bit_and l segment_bits ≡ 0 → (l + s * 2 ^ 58) / 2 ^ 58 % 2 ^ 2 ≡ s
segment_back l s small none = let clear = bits_clear l none in omega arith

-- Doubleword 0 is its 52 bits and B.
pub first_back : (h : ℕ) → h < 2 ^ 64 → bit_and h unheld ≡ 0 → h % 2 ^ 52 + h / 2 ^ 62 * 2 ^ 62 ≡ h
first_back h fits none = let clear = unheld_clear h none in omega arith

-- The bit that H_ENTER clears stays clear.
pub stays_cleared :
    (l s : ℕ)
    → s < 4
    → bit_and l segment_bits ≡ 0
    → bit_and l cleared_bit ≡ 0
    → bit_and (l + s * 2 ^ 58) cleared_bit ≡ 0
stays_cleared l s small none clear =
    let low : s * 2 ^ 58 < 2 ^ 62 = omega arith in
    let apart : bit_and (s * 2 ^ 58) cleared_bit ≡ 0 = and_comm (s * 2 ^ 58) cleared_bit ∙
    shifted_apart 1 62 (s * 2 ^ 58) (lit< tt) low in
    ap (λ y. bit_and y cleared_bit) (sym (bits_joined l s small none))
    ∙ mask_of_or l (s * 2 ^ 58) cleared_bit
    ∙ rw (clear, apart) refl

-- None of the twelve bits that the newer layout leaves out is set.
pub none_left : (h : ℕ) → bit_and (h % 2 ^ 52) left_out ≡ 0
none_left h =
    and_comm (h % 2 ^ 52) left_out ∙ shifted_apart 0xFFF 52 (h % 2 ^ 52) (lit< tt) (omega arith)

-- Doubleword 1 without B is itself.
without_place :
    (l : ℕ) → l < 2 ^ 64 → bit_and l segment_bits ≡ 0 → bit_and l 0xF3FFFFFFFFFFFFFF ≡ l
without_place l fits none =
    let whole : bit_and l 0xFFFFFFFFFFFFFFFF ≡ l = and_mask l 64 ∙ omega arith in
    let halves : bit_and 0xFFFFFFFFFFFFFFFF l ≡ bit_or (bit_and 0xF3FFFFFFFFFFFFFF l)
    (bit_and segment_bits l) = mask_of_or 0xF3FFFFFFFFFFFFFF segment_bits l in
    sym (or_zero_r (bit_and l 0xF3FFFFFFFFFFFFFF))
    ∙ rw (and_comm l 0xF3FFFFFFFFFFFFFF)
    (ap (bit_or (bit_and 0xF3FFFFFFFFFFFFFF l)) (sym none ∙ and_comm l segment_bits)
    ∙ sym halves
    ∙ and_comm 0xFFFFFFFFFFFFFFFF l
    ∙ whole)

pub second_back :
    (l s : ℕ)
    → l < 2 ^ 64
    → s < 4
    → bit_and l segment_bits ≡ 0
    → bit_and (l + s * 2 ^ 58) 0xF3FFFFFFFFFFFFFF ≡ l
second_back l s fits small none =
    let moved : bit_and (s * 2 ^ 58) 0xF3FFFFFFFFFFFFFF ≡ 0 =
    ap (λ y. bit_and y 0xF3FFFFFFFFFFFFFF)
    (sym (within_bits s small) ∙ and_comm segment_bits (s * 2 ^ 58))
    ∙ and_assoc 0xF3FFFFFFFFFFFFFF (s * 2 ^ 58) segment_bits
    ∙ and_zero_r (s * 2 ^ 58) in
    ap (λ y. bit_and y 0xF3FFFFFFFFFFFFFF) (sym (bits_joined l s small none))
    ∙ mask_of_or l (s * 2 ^ 58) 0xF3FFFFFFFFFFFFFF
    ∙ rw (without_place l fits none, moved) (or_zero_r l)
