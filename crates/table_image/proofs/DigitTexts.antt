-- Digits of doublewords: they are ASCII, and they are read back.
use Rattle.std.proofs.Common.{◌+◌, ◌*◌, ◌≡◌, ℕ, zero, suc, ◌/◌, ◌^◌, ◌<◌, ◌++◌, Bool, true, false, List, [], ◌∷◌, Option, Some, None, arith, ap, ◌∙◌, refl, bit_and, inl, inr, ◌⊎◌}
use Rattle.std.specs.Prelude.{◌==◌, ◌&&◌}
use Rattle.std.specs.Int.{byte_at, bytes_high_first}
use Rattle.std.specs.Str.{IsAscii}
use Rattle.std.specs.Option.{option_map}
use Rattle.std.specs.Result.{result_ok}
use Rattle.std.proofs.lemmas.Bool.{cases_Bool, and_parts, eqb-true}
use Rattle.std.proofs.lemmas.Str.Ascii.{IsAscii-nil, IsAscii-cons}
use Rattle.byteorder.specs.Endian.{big_bytes}
use Rattle.byteorder.specs.Numbers.{big_number-reads_back}
use Rattle.hex.specs.Hex.{IsBytes, lower_digits}
use Rattle.hex.proofs.HexLemmas.{IsAscii-encode_with, decode_sized-encode_lower}
use Rattle.table_image.specs.Image.{IsReadBack}
use Rattle.table_image.specs.Layouts.{entry_digits, entry_words, digits_of_words, words_of_digits, words_of_bytes, laid_out, read_words, fits_new, new_words, cleared_bit, unheld, segment_bits}
use Rattle.table_image.specs.declared.layout.Layout.{Layout}
use Rattle.table_image.specs.declared.layout.Layout.TheVariants.{Old, New}
use Rattle.table_image.proofs.BitFields.{bits_fit, segment_back, first_back, stays_cleared, none_left, second_back}

-- ---- digits are ASCII
all_ascii : List ℕ → Bool
all_ascii [] = true
all_ascii (x ∷ xs) = (x / 128 == 0) && all_ascii xs

IsAscii-all : (xs : List ℕ) → all_ascii xs ≡ true → IsAscii xs
unfolding all_ascii
IsAscii-all [] told = IsAscii-nil
IsAscii-all (x ∷ xs) told =
    let parts = and_parts (x / 128 == 0) (all_ascii xs) told in
    let high : x / 128 ≡ 0 = eqb-true (x / 128) 0 parts.0 in
    IsAscii-cons x xs (omega arith) (IsAscii-all xs parts.1)

lower_IsAscii : IsAscii lower_digits
unfolding all_ascii
lower_IsAscii = IsAscii-all lower_digits refl

-- The digits of a layout.
digits_ascii :
    (o : Option (ℕ × ℕ)) (digits : List ℕ)
    → Some digits ≡ option_map digits_of_words o
    → IsAscii digits
digits_ascii (Some w) digits e =
    let same : digits ≡ digits_of_words w = cc in
    rw same (IsAscii-encode_with lower_digits (big_bytes 8 w.0 ++ big_bytes 8 w.1) lower_IsAscii)
digits_ascii None digits e = cc

pub entry_digits_ascii :
    (layout : Layout) (w : ℕ × ℕ) (digits : List ℕ)
    → Some digits ≡ entry_digits layout w
    → IsAscii digits
unfolding entry_digits
entry_digits_ascii layout w digits e = digits_ascii (laid_out layout w) digits e

-- ---- bytes
pub byte_small : (k x : ℕ) → byte_at k x < 256
byte_small zero x = omega arith
byte_small (suc k) x = omega arith

-- Bytes of a number in front of bytes.
pub bytes_of_number :
    (n x : ℕ) (rest : List ℕ) → IsBytes rest → IsBytes (bytes_high_first n x ++ rest)
bytes_of_number zero x rest told i = told i
bytes_of_number (suc n) x rest told zero = byte_small n x
bytes_of_number (suc n) x rest told (suc i) = bytes_of_number n x rest told i

pub no_bytes : IsBytes []
no_bytes i = omega arith

-- ---- digits are read back
-- Two doublewords are those that their digits spell.
words_back :
    (a b : ℕ) → a < 2 ^ 64 → b < 2 ^ 64 → words_of_digits (digits_of_words (a, b)) ≡ Some (a, b)
words_back a b small fits =
    let told : IsBytes (big_bytes 8 a ++ big_bytes 8 b) = bytes_of_number 8 a (big_bytes 8 b)
    (bytes_of_number 8 b [] no_bytes) in
    ap (λ r. option_map words_of_bytes (result_ok r))
    (decode_sized-encode_lower (big_bytes 8 a ++ big_bytes 8 b) 16 refl told)
    ∙ rw (big_number-reads_back 8 a (big_bytes 8 b) small, big_number-reads_back 8 b [] fits) refl

-- What a layout makes of doublewords is read as these doublewords.
old_back : (h l : ℕ) → bit_and l cleared_bit ≡ 0 → read_words Old (h, l) ≡ Some (h, l)
old_back h l clear = rw clear refl

new_back :
    (h l : ℕ)
    → h < 2 ^ 64
    → l < 2 ^ 64
    → bit_and l cleared_bit ≡ 0
    → bit_and h unheld ≡ 0
    → bit_and l segment_bits ≡ 0
    → read_words New (new_words (h, l)) ≡ Some (h, l)
new_back h l small fits clear held free =
    let s : h / 2 ^ 62 < 4 = omega arith in
    rw (
      stays_cleared l (h / 2 ^ 62) s free clear,
      none_left h,
      segment_back l (h / 2 ^ 62) s free,
      second_back l (h / 2 ^ 62) fits s free,
      first_back h small held,
    ) refl

-- Digits of a pair that are read as it.
spelt_back :
    (layout : Layout) (w v : ℕ × ℕ) (digits : List ℕ)
    → v.0 < 2 ^ 64
    → v.1 < 2 ^ 64
    → Some (digits_of_words v) ≡ Some digits
    → read_words layout v ≡ Some w
    → entry_words layout digits ≡ Some w
unfolding entry_words
spelt_back layout w v digits small fits e told =
    let same : digits ≡ digits_of_words v = cc in
    rw (same, words_back v.0 v.1 small fits) told

pub read_back :
    (layout : Layout) (h l : ℕ) (digits : List ℕ)
    → h < 2 ^ 64
    → l < 2 ^ 64
    → bit_and l cleared_bit ≡ 0
    → entry_digits layout (h, l) ≡ Some digits
    → entry_words layout digits ≡ Some (h, l)
unfolding entry_digits
read_back Old h l digits small fits clear e =
    spelt_back Old (h, l) (h, l) digits small fits e (old_back h l clear)
read_back New h l digits small fits clear e = at (cases_Bool (fits_new (h, l))) where
  at : (fits_new (h, l) ≡ true) ⊎ (fits_new (h, l) ≡ false) → entry_words New digits ≡ Some (h, l)
  at (inl held) =
      let parts = and_parts (bit_and h unheld == 0) (bit_and l segment_bits == 0) held in
      let first : bit_and h unheld ≡ 0 = eqb-true (bit_and h unheld) 0 parts.0 in
      let second : bit_and l segment_bits ≡ 0 = eqb-true (bit_and l segment_bits) 0 parts.1 in
      let there : Some (digits_of_words (new_words (h, l))) ≡ Some digits = rw held at e in
      let sum : l + h / 2 ^ 62 * 2 ^ 58 < 2 ^ 64 = bits_fit l (h / 2 ^ 62) fits (omega arith)
      second in
      spelt_back New (h, l) (new_words (h, l)) digits (omega arith) sum there
      (new_back h l small fits clear first second)
  at (inr past) = let none : None ≡ Some digits = rw past at e in cc

pub is_read_back : IsReadBack
is_read_back = record { words = read_back }
