-- Worked rows, which the checker computes.
use Rattle.std.proofs.Common.{◌≡◌, ℕ, [], ◌∷◌, ◌++◌, Some, None, Ok, Err, codes, refl}
use Rattle.std.specs.Fmt.{digits}
use Rattle.hex.proofs.OnLiterals.{hex_on_literals}
use Rattle.table_image.specs.Layouts.{entry_digits, entry_words}
use Rattle.table_image.specs.Image.{image_head, image_of}
use Rattle.table_image.specs.declared.entry.ImageEntry.{ImageEntry}
use Rattle.table_image.specs.declared.layout.Layout.TheVariants.{Old, New}

-- ---- digits
old_digits : entry_digits Old (0x1001, 0x3012) ≡ Some (codes "00000000000010010000000000003012")
unfolding entry_digits hex_on_literals
old_digits = refl

-- B is 1: it moves to doubleword 1.
new_digits :
    entry_digits New (0x4000000001000001, 0x3012) ≡ Some (codes "00000000010000010400000000003012")
unfolding entry_digits hex_on_literals
new_digits = refl

-- Every bit that the older layout has, and every one that the newer can hold.
old_digits_full :
    entry_digits Old (0xFFFFFFFFFFFFFFFF, 0xFEDCBA9876543210)
    ≡ Some (codes "fffffffffffffffffedcba9876543210")
unfolding entry_digits hex_on_literals
old_digits_full = refl

new_digits_full :
    entry_digits New (0xC00FFFFFFFFFFFFF, 0xF3FFFFFFFFFFFFFF)
    ≡ Some (codes "000fffffffffffffffffffffffffffff")
unfolding entry_digits hex_on_literals
new_digits_full = refl

-- The lowest and the highest of the ten bits that the newer layout has no place for; the two of
-- doubleword 1 where it puts B.
past_low : entry_digits New (0x0010000000001001, 0x3012) ≡ None
unfolding entry_digits
past_low = refl

past_high : entry_digits New (0x2000000000001001, 0x3012) ≡ None
unfolding entry_digits
past_high = refl

past_place_low : entry_digits New (0x1001, 0x0400000000003012) ≡ None
unfolding entry_digits
past_place_low = refl

past_place_high : entry_digits New (0x1001, 0x0800000000003012) ≡ None
unfolding entry_digits
past_place_high = refl

-- The older layout holds them.
old_holds :
    entry_digits Old (0x3FF0000000001001, 0x0C00000000003012)
    ≡ Some (codes "3ff00000000010010c00000000003012")
unfolding entry_digits hex_on_literals
old_holds = refl

-- ---- doublewords
old_words : entry_words Old (codes "00000000000010010000000000003012") ≡ Some (0x1001, 0x3012)
unfolding entry_words hex_on_literals
old_words = refl

new_words :
    entry_words New (codes "00000000010000010400000000003012") ≡ Some (0x4000000001000001, 0x3012)
unfolding entry_words hex_on_literals
new_words = refl

new_words_full :
    entry_words New (codes "000fffffffffffffbfffffffffffffff")
    ≡ Some (0xC00FFFFFFFFFFFFF, 0xB3FFFFFFFFFFFFFF)
unfolding entry_words hex_on_literals
new_words_full = refl

-- Digits of either case are read.
upper_words : entry_words Old (codes "00000000DEADBEEF000000000000ABcd") ≡ Some (0xDEADBEEF, 0xABCD)
unfolding entry_words hex_on_literals
upper_words = refl

-- A byte that is no digit, first and last.
no_digit_first : entry_words Old (codes "g0000000000010010000000000003012") ≡ None
unfolding entry_words hex_on_literals
no_digit_first = refl

no_digit_last : entry_words Old (codes "0000000000001001000000000000301 ") ≡ None
unfolding entry_words hex_on_literals
no_digit_last = refl

-- Doubleword 1 has the bit that H_ENTER clears.
old_with_cleared : entry_words Old (codes "00000000000010014000000000003012") ≡ None
unfolding entry_words hex_on_literals
old_with_cleared = refl

new_with_cleared : entry_words New (codes "00000000000010014000000000003012") ≡ None
unfolding entry_words hex_on_literals
new_with_cleared = refl

-- Doubleword 0 has the lowest and the highest of the twelve bits that the newer layout leaves out;
-- the older one has them.
new_past_low : entry_words New (codes "00100000000010010000000000003012") ≡ None
unfolding entry_words hex_on_literals
new_past_low = refl

new_past_high : entry_words New (codes "80000000000010010000000000003012") ≡ None
unfolding entry_words hex_on_literals
new_past_high = refl

old_past_high :
    entry_words Old (codes "fff00000000010010c00000000003012")
    ≡ Some (0xFFF0000000001001, 0x0C00000000003012)
unfolding entry_words hex_on_literals
old_past_high = refl

-- ---- images
-- An entry of an image: its index and its doublewords.
unfoldable pub entry : ℕ → ℕ → ℕ → ImageEntry
entry index dword0 dword1 = record { index = index; dword0 = dword0; dword1 = dword1 }

image_of_none : image_of New 46 [] ≡ Ok (codes "image new order 46 entries 0\n")
unfolding image_of image_head digits
image_of_none = refl

image_of_one :
    image_of Old 18 (entry 0x20 0x1001 0x3012 ∷ [])
    ≡ Ok (codes "image old order 18 entries 1\n0x20 00000000000010010000000000003012\n")
unfolding image_of image_head digits entry entry_digits hex_on_literals
image_of_one = refl

image_of_two :
    image_of New 18 (entry 0 0x4000000001000001 0x3112 ∷ entry 0x3FFF 0x1001 0x3012 ∷ [])
    ≡ Ok
    (codes "image new order 18 entries 2\n"
    ++ codes "0x0 00000000010000010400000000003112\n"
    ++ codes "0x3fff 00000000000010010000000000003012\n")
unfolding image_of image_head digits entry entry_digits hex_on_literals
image_of_two = refl

-- The first of two that the layout can't hold, after one that it can.
image_past :
    image_of New 18
    (entry 1 0x1001 0x3012
    ∷ entry 5 0x0010000000001001 0x3012
    ∷ entry 9 0x1001 0x0400000000003012
    ∷ [])
    ≡ Err 5
unfolding image_of entry entry_digits hex_on_literals
image_past = refl
