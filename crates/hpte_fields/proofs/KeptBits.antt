-- What H_PROTECT leaves of doubleword 1: the bits of each mask that no flag replaces.
use Rattle.std.proofs.Common.{◌≡◌, ℕ, ◌+◌, ◌*◌, ◌^◌, ◌<◌, ◌∙◌, ap, sym, refl, arith, lit<, bit_and, bit_or}
use Rattle.std.specs.Int.Bits.{and_zero_l, and_zero_r, or_zero_r}
use Rattle.std.proofs.lemmas.Nat.{and_block, and_assoc}
use Rattle.hpte_fields.specs.Fields.{page_bits, protected_word, stored_second}
use Rattle.hpte_fields.proofs.Masks.{mask_of_or}

-- ---- the parts of what H_PROTECT stores
-- What stays of the doubleword.
abbrev stays : ℕ → ℕ
stays d = bit_and d 0x4FFFFFFFFFFFF1F8

-- What comes from the flags: PP0, key high, and key low with N and PP.
abbrev first_bit : ℕ → ℕ
first_bit f = bit_and f 0x100 * 2 ^ 55

abbrev key_bits : ℕ → ℕ
key_bits f = bit_and f 0x3000 * 2 ^ 48

abbrev low_bits : ℕ → ℕ
low_bits f = bit_and f 0xE07

-- Four parts under a mask, each of which is then another number.
four_masked :
    (a b c d mask w x y z : ℕ)
    → bit_and a mask ≡ w
    → bit_and b mask ≡ x
    → bit_and c mask ≡ y
    → bit_and d mask ≡ z
    → bit_and (bit_or (bit_or (bit_or a b) c) d) mask ≡ bit_or (bit_or (bit_or w x) y) z
four_masked a b c d mask w x y z e g h i =
    rw (
      mask_of_or (bit_or (bit_or a b) c) d mask,
      mask_of_or (bit_or a b) c mask,
      mask_of_or a b mask,
      e,
      g,
      h,
      i,
    ) refl

-- Bits that are shifted, under a mask whose low part they don't reach.
shifted_masked :
    (x m k top low : ℕ)
    → low < 2 ^ k
    → 0 < 2 ^ k
    → bit_and (bit_and x m * 2 ^ k) (top * 2 ^ k + low) ≡ bit_and x (bit_and m top) * 2 ^ k
shifted_masked x m k top low small some =
    let left : bit_and x m * 2 ^ k ≡ bit_and x m * 2 ^ k + 0 = omega arith in
    ap (λ y. bit_and y (top * 2 ^ k + low)) left
    ∙ and_block k (bit_and x m) top 0 low some small
    ∙ rw (and_assoc top x m, and_zero_l low) (omega arith)

-- The mask has none of them.
shifted_off :
    (x m k top low : ℕ)
    → low < 2 ^ k
    → 0 < 2 ^ k
    → bit_and m top ≡ 0
    → bit_and (bit_and x m * 2 ^ k) (top * 2 ^ k + low) ≡ 0
shifted_off x m k top low small some apart =
    shifted_masked x m k top low small some ∙ rw (apart, and_zero_r x) (omega arith)

-- The mask has all of them.
shifted_in :
    (x m k top low : ℕ)
    → low < 2 ^ k
    → 0 < 2 ^ k
    → bit_and m top ≡ m
    → bit_and (bit_and x m * 2 ^ k) (top * 2 ^ k + low) ≡ bit_and x m * 2 ^ k
shifted_in x m k top low small some inside =
    shifted_masked x m k top low small some ∙ ap (λ n. bit_and x n * 2 ^ k) inside

-- ---- bits that stay
none_of_three : (a : ℕ) → bit_or (bit_or (bit_or a 0) 0) 0 ≡ a
none_of_three a = or_zero_r (bit_or (bit_or a 0) 0) ∙ or_zero_r (bit_or a 0) ∙ or_zero_r a

-- The bits of a mask stay where it has none of the flags' and all of its own are among those that
-- stay.
mask_stays :
    (d f mask : ℕ)
    → bit_and (first_bit f) mask ≡ 0
    → bit_and (key_bits f) mask ≡ 0
    → bit_and 0xE07 mask ≡ 0
    → bit_and 0x4FFFFFFFFFFFF1F8 mask ≡ mask
    → bit_and (protected_word d f) mask ≡ bit_and d mask
mask_stays d f mask first key low inside =
    four_masked (stays d) (first_bit f) (key_bits f) (low_bits f) mask (bit_and d mask) 0 0 0
    (and_assoc mask d 0x4FFFFFFFFFFFF1F8 ∙ ap (bit_and d) inside) first key
    (and_assoc mask f 0xE07 ∙ ap (bit_and f) low ∙ and_zero_r f)
    ∙ none_of_three (bit_and d mask)

-- R and C.
pub protected_keeps_rc :
    (dword1 flags : ℕ) → bit_and (protected_word dword1 flags) 0x180 ≡ bit_and dword1 0x180
protected_keeps_rc d f =
    mask_stays d f 0x180 (shifted_off f 0x100 55 0 0x180 (lit< tt) (lit< tt) refl)
    (shifted_off f 0x3000 48 0 0x180 (lit< tt) (lit< tt) refl) refl refl

-- The storage control bits.
pub protected_control :
    (dword1 flags : ℕ) → bit_and (protected_word dword1 flags) 0x78 ≡ bit_and dword1 0x78
protected_control d f =
    mask_stays d f 0x78 (shifted_off f 0x100 55 0 0x78 (lit< tt) (lit< tt) refl)
    (shifted_off f 0x3000 48 0 0x78 (lit< tt) (lit< tt) refl) refl refl

-- The bits that say which real page the entry maps.
pub protected_page : (dword1 flags : ℕ) → page_bits (protected_word dword1 flags) ≡ page_bits dword1
protected_page d f =
    mask_stays d f 0x0FFFFFFFFFFFF000
    (shifted_off f 0x100 55 0x1F 0x7FFFFFFFFFF000 (lit< tt) (lit< tt) refl)
    (shifted_off f 0x3000 48 0xFFF 0xFFFFFFFFF000 (lit< tt) (lit< tt) refl) refl refl

-- ---- the reserved bit
-- It is none of the flags', and stays clear.
pub protected_second :
    (dword1 flags : ℕ)
    → stored_second dword1 ≡ dword1
    → stored_second (protected_word dword1 flags) ≡ protected_word dword1 flags
protected_second d f clear =
    four_masked (stays d) (first_bit f) (key_bits f) (low_bits f) 0xBFFFFFFFFFFFFFFF (stays d)
    (first_bit f) (key_bits f) (low_bits f)
    (and_assoc 0xBFFFFFFFFFFFFFFF d 0x4FFFFFFFFFFFF1F8
    ∙ sym (and_assoc 0x4FFFFFFFFFFFF1F8 d 0xBFFFFFFFFFFFFFFF)
    ∙ ap (λ n. bit_and n 0x4FFFFFFFFFFFF1F8) clear)
    (shifted_in f 0x100 55 0x17F 0x7FFFFFFFFFFFFF (lit< tt) (lit< tt) refl)
    (shifted_in f 0x3000 48 0xBFFF 0xFFFFFFFFFFFF (lit< tt) (lit< tt) refl)
    (and_assoc 0xBFFFFFFFFFFFFFFF f 0xE07)
