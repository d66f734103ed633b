-- The two layouts of an entry's doublewords, and their digits.
use Rattle.std.specs.Prelude.{ℕ, ◌+◌, ◌*◌, ◌/◌, ◌%◌, ◌^◌, ◌==◌, ◌&&◌, bit_and, Bool, if◌then◌else◌, List, ◌++◌, drop, Option, Some, None}
use Rattle.std.specs.Option.{option_map, option_and_then}
use Rattle.std.specs.Result.{result_ok}
use Rattle.hex.specs.Hex.{encode_lower, decode_sized}
use Rattle.byteorder.specs.Endian.{big_bytes, big_number}
use Rattle.hpte_fields.specs.Fields.{segment_code}
use Rattle.table_image.specs.declared.layout.Layout.{Layout}
use Rattle.table_image.specs.declared.layout.Layout.TheVariants.{Old, New}

-- ---- digits
-- Two doublewords as digits: each as eight bytes, the most significant first, in lower-case
-- hexadecimal.
abbrev pub digits_of_words : ℕ × ℕ → List ℕ
digits_of_words w = encode_lower (big_bytes 8 w.0 ++ big_bytes 8 w.1)

-- The two doublewords of sixteen bytes.
abbrev pub words_of_bytes : List ℕ → ℕ × ℕ
words_of_bytes bytes = (big_number 8 bytes, big_number 8 (drop 8 bytes))

-- The doublewords that 32 digits of either case spell: none where there are more or fewer, or one
-- is no digit.
abbrev pub words_of_digits : List ℕ → Option (ℕ × ℕ)
words_of_digits digits = option_map words_of_bytes (result_ok (decode_sized digits 16))

-- ---- the newer layout
-- The ten bits of doubleword 0 below B, which the newer layout doesn't hold.
abbrev pub unheld : ℕ
unheld = 0x3FF0000000000000

-- The bits of doubleword 1 that hold B in the newer layout.
abbrev pub segment_bits : ℕ
segment_bits = 0x0C00000000000000

-- The newer layout can hold the entry: the ten bits are clear, and so are those of doubleword 1
-- where it puts B.
abbrev pub fits_new : ℕ × ℕ → Bool
fits_new w = (bit_and w.0 unheld == 0) && (bit_and w.1 segment_bits == 0)

-- The newer layout's doublewords of an entry that it can hold: B is in the second, and the
-- first has 52 bits.
abbrev pub new_words : ℕ × ℕ → ℕ × ℕ
new_words w = (w.0 % 2 ^ 52, w.1 + segment_code w.0 * 2 ^ 58)

-- The older layout's doublewords of those of the newer one.
abbrev pub old_words : ℕ × ℕ → ℕ × ℕ
old_words w = (w.0 + w.1 / 2 ^ 58 % 2 ^ 2 * 2 ^ 62, bit_and w.1 0xF3FFFFFFFFFFFFFF)

-- ---- both layouts
-- An entry's doublewords in this layout: none where it can't hold them.
abbrev pub laid_out : Layout → ℕ × ℕ → Option (ℕ × ℕ)
laid_out Old w = Some w
laid_out New w = if fits_new w then Some (new_words w) else None

-- The bit of doubleword 1 that H_ENTER clears.
abbrev pub cleared_bit : ℕ
cleared_bit = 0x4000000000000000

-- The twelve bits of doubleword 0 that are none of its own in the newer layout.
abbrev pub left_out : ℕ
left_out = 0xFFF0000000000000

-- The older layout's doublewords of those that were read in this layout: none where the bit is set
-- that H_ENTER clears, or, in the newer layout, one of the twelve that it leaves out.
abbrev pub read_words : Layout → ℕ × ℕ → Option (ℕ × ℕ)
read_words Old w = if bit_and w.1 cleared_bit == 0 then Some w else None
read_words New w =
    if (bit_and w.1 cleared_bit == 0) && (bit_and w.0 left_out == 0)
    then Some (old_words w)
    else None

-- The digits of an entry's doublewords in this layout: none where it can't hold them.
unfoldable pub entry_digits : Layout → ℕ × ℕ → Option (List ℕ)
entry_digits layout w = option_map digits_of_words (laid_out layout w)

-- The older layout's doublewords that digits of this layout spell.
unfoldable pub entry_words : Layout → List ℕ → Option (ℕ × ℕ)
entry_words layout digits = option_and_then (read_words layout) (words_of_digits digits)
