-- The number of 64 bits that a word writes in decimal or hexadecimal digits.
use Rattle.std.specs.Prelude.{ℕ, ◌^◌, ◌==◌, ◌&&◌, ◌||◌, Bool, List, length, Option, Some, None, if◌then◌else◌, nat_lt, nat_le, drop, slice_index}
use Rattle.std.specs.List.{list_all}
use Rattle.std.specs.Str.Parse.{digits_value}
use Rattle.std.specs.Char.{digit_value}

-- All are digits of the base.
abbrev pub all_digits : ℕ → List ℕ → Bool
all_digits base ds = list_all (λ c. nat_lt (digit_value c) base) ds

-- What 1 to `most` digits write, where that is below 2 ^ 64.
abbrev pub digits_number : ℕ → ℕ → List ℕ → Option ℕ
digits_number base most ds =
    if
    (nat_lt 0 (length ds) && nat_le (length ds) most)
    && (all_digits base ds && nat_lt (digits_value base ds) (2 ^ 64))
    then Some (digits_value base ds)
    else None

-- The word begins with `0x` or `0X`.
abbrev pub has_hex_prefix : List ℕ → Bool
has_hex_prefix word =
    nat_lt 1 (length word)
    && ((slice_index word 0 == 48) && ((slice_index word 1 == 120) || (slice_index word 1 == 88)))

-- `0x` or `0X` and 1 to 16 hexadecimal digits of either case, or 1 to 20 decimal digits.
unfoldable pub number_of : List ℕ → Option ℕ
number_of word =
    if has_hex_prefix word then digits_number 16 16 (drop 2 word) else digits_number 10 20 word
