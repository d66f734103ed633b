-- The fields of an entry's two doublewords, their change by H_PROTECT, and the words that H_ENTER
-- stores.
use Rattle.std.specs.Prelude.{not, ◌+◌, ℕ, ◌/◌, ◌%◌, ◌^◌, ◌*◌, ◌==◌, ◌||◌, bit_and, bit_or, Bool, Option, Some, None, if◌then◌else◌, nat_lt, is_none}
use Rattle.page_sizes.specs.Sizes.{size_of}

-- ---- bits
-- V, in doubleword 0.
abbrev pub valid_bit : ℕ
valid_bit = 0x01

-- H, in doubleword 0.
abbrev pub secondary_bit : ℕ
secondary_bit = 0x02

-- The software bit of doubleword 0 by which a guest marks an entry that is to stay.
abbrev pub bolted_bit : ℕ
bolted_bit = 0x10

-- B and the abbreviated virtual page number: all of doubleword 0 but its low seven bits.
abbrev pub tag_mask : ℕ
tag_mask = 0xFFFFFFFFFFFFFF80

-- R, in doubleword 1.
abbrev pub referenced_bit : ℕ
referenced_bit = 0x100

-- C, in doubleword 1.
abbrev pub changed_bit : ℕ
changed_bit = 0x80

-- R and C, in doubleword 1.
abbrev pub rc_bits : ℕ
rc_bits = 0x180

-- ---- doubleword 0
-- B: 0 is a segment of 256 MB, 1 one of 1 TB.
abbrev pub segment_code : ℕ → ℕ
segment_code dword0 = dword0 / 2 ^ 62

-- B is 1.
abbrev pub is_one_tb : ℕ → Bool
is_one_tb dword0 = segment_code dword0 == 1

-- B and the abbreviated virtual page number.
abbrev pub tag_field : ℕ → ℕ
tag_field dword0 = bit_and dword0 tag_mask

-- The guest marked the entry as one that is to stay.
abbrev pub is_bolted : ℕ → Bool
is_bolted dword0 = bit_and dword0 bolted_bit == bolted_bit

-- H: the entry is in its page's secondary group.
abbrev pub is_secondary : ℕ → Bool
is_secondary dword0 = bit_and dword0 secondary_bit == secondary_bit

-- V is set.
abbrev pub is_valid : ℕ → Bool
is_valid dword0 = bit_and dword0 valid_bit == valid_bit

-- ---- doubleword 1
-- PP0, which counts 4, and PP.
abbrev pub pp_of : ℕ → ℕ
pp_of dword1 = dword1 / 2 ^ 63 * 4 + dword1 % 2 ^ 2

-- Key high, followed by key low.
abbrev pub key_of : ℕ → ℕ
key_of dword1 = dword1 / 2 ^ 60 % 2 ^ 2 * 2 ^ 3 + dword1 / 2 ^ 9 % 2 ^ 3

-- The real page number at its place, the part that encodes the page's size included.
abbrev pub page_bits : ℕ → ℕ
page_bits dword1 = bit_and dword1 0x0FFFFFFFFFFFF000

-- The address that the real page number gives, with its bits below the actual page size cleared.
abbrev pub frame_of : ℕ → ℕ → ℕ
frame_of dword1 actual = page_bits dword1 / 2 ^ actual * 2 ^ actual

-- R is set.
abbrev pub is_referenced : ℕ → Bool
is_referenced dword1 = bit_and dword1 referenced_bit == referenced_bit

-- C is set.
abbrev pub is_changed : ℕ → Bool
is_changed dword1 = bit_and dword1 changed_bit == changed_bit

-- A doubleword 1 with R and C cleared.
abbrev pub without_rc : ℕ → ℕ
without_rc dword1 = bit_and dword1 0xFFFFFFFFFFFFFE7F

-- One with these R and C.
abbrev pub with_rc : ℕ → Bool → Bool → ℕ
with_rc dword1 referenced changed =
    bit_or
    (bit_or dword1 (if referenced then referenced_bit else 0))
    (if changed then changed_bit else 0)

-- W 8, I 4, M 2, G 1.
abbrev pub wimg_of : ℕ → ℕ
wimg_of dword1 = dword1 / 2 ^ 3 % 2 ^ 4

-- N or G.
abbrev pub is_no_execute : ℕ → Bool
is_no_execute dword1 = not (bit_and dword1 0x0C == 0)

-- PP0, key high, key low, N and PP replaced by the flags' bits.
abbrev pub protected_word : ℕ → ℕ → ℕ
protected_word dword1 flags =
    bit_or
    (bit_or
    (bit_or (bit_and dword1 0x4FFFFFFFFFFFF1F8) (bit_and flags 0x100 * 2 ^ 55))
    (bit_and flags 0x3000 * 2 ^ 48))
    (bit_and flags 0xE07)

-- ---- the words that H_ENTER stores
-- V is set, and the hypervisor's bits 0x60 are clear.
abbrev pub stored_first : ℕ → ℕ
stored_first pteh = bit_or (bit_and pteh 0xFFFFFFFFFFFFFF9F) 0x01

-- The reserved bit is clear.
abbrev pub stored_second : ℕ → ℕ
stored_second ptel = bit_and ptel 0xBFFFFFFFFFFFFFFF

-- None where B is above 1 or no page size fits.
abbrev pub normal_words : ℕ → ℕ → Option (ℕ × ℕ)
normal_words pteh ptel =
    if nat_lt 1 (segment_code pteh) || is_none (size_of pteh ptel)
    then None
    else Some (stored_first pteh, stored_second ptel)
