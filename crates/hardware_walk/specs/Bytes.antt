-- The bytes that hardware stores to record R and C, as numbers of doubleword 1: the other bits of
-- the byte are those that its walk read.
use Rattle.std.specs.Prelude.{◌≡◌, ℕ, Bool, true, bit_and, bit_or, bit_xor}
use Rattle.hpte_fields.specs.Fields.{with_rc}

-- The memory word with the bits of this mask taken from another word.
abbrev pub bits_stored : ℕ → ℕ → ℕ → ℕ
bits_stored memory word mask = bit_xor memory (bit_and (bit_xor memory word) mask)

-- Byte 6 with R, and byte 7 with C; bytes are counted from the highest.
abbrev pub byte_6_stored : ℕ → ℕ → ℕ
byte_6_stored memory read = bits_stored memory (bit_or read 0x100) 0xFF00

-- Byte 7 with C, stored from the word that the walk read.
abbrev pub byte_7_stored : ℕ → ℕ → ℕ
byte_7_stored memory read = bits_stored memory (bit_or read 0x80) 0xFF

-- Where memory has the doubleword that the walk read, R and C apart, byte 6 sets R, whatever R and
-- C were then and are now, and byte 7 sets C.
abbrev pub BytesSetBits : Type 0
BytesSetBits =
    (dword1 : ℕ) (r c r' c' : Bool)
    → (byte_6_stored (with_rc dword1 r c) (with_rc dword1 r' c') ≡ with_rc dword1 true c)
    × (byte_7_stored (with_rc dword1 r c) (with_rc dword1 r' c') ≡ with_rc dword1 r true)
