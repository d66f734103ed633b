-- The page sizes that an entry's doublewords can encode: a table, and the row of it that fits.
use Rattle.std.specs.Prelude.{if◌then◌else◌, ℕ, ◌/◌, ◌%◌, ◌^◌, ◌-◌, ◌==◌, bit_and, Bool, List, [], ◌∷◌, Option, Some, find}
use Rattle.std.specs.Option.{option_map}
use Rattle.page_sizes.specs.declared.size.PageSize.{PageSize}

-- One row: the base and the actual page size, as binary logarithms, and the low part of the real
-- page number that encodes them.
pub record Row : Type 0 where
  pub base : ℕ
  pub actual : ℕ
  pub low : ℕ

-- The row of a base page and an actual page with this low part.
abbrev pub row_of : ℕ → ℕ → ℕ → Row
row_of base actual low = record { base = base; actual = actual; low = low }

-- The rows of an actual page larger than 4 KB: 64 KB, 16 MB and 16 GB with a base page as large,
-- then 4 KB in 64 KB, 4 KB in 16 MB and 64 KB in 16 MB.
abbrev pub large_rows : List Row
large_rows =
    row_of 16 16 1
    ∷ row_of 24 24 0
    ∷ row_of 34 34 3
    ∷ row_of 12 16 7
    ∷ row_of 12 24 0x38
    ∷ row_of 16 24 8
    ∷ []

-- The part of the real page number below the actual page size, in units of 4 KB.
abbrev pub low_of : ℕ → ℕ → ℕ
low_of dword1 actual = dword1 / 2 ^ 12 % 2 ^ (actual - 12)

-- The doubleword's low part is the row's.
abbrev pub row_fits : ℕ → Row → Bool
row_fits dword1 row = low_of dword1 row.actual == row.low

-- The sizes of a row.
abbrev pub size_in : Row → PageSize
size_in row = record { base = row.base; actual = row.actual }

-- The size of a large page whose row fits, or none.
abbrev pub large_size : ℕ → Option PageSize
large_size dword1 = option_map size_in (find (row_fits dword1) large_rows)

-- With L clear the page is 4 KB; with L set the row that fits says its sizes.
abbrev pub size_of : ℕ → ℕ → Option PageSize
size_of dword0 dword1 =
    if bit_and dword0 0x04 == 0 then Some (record { base = 12; actual = 12 }) else large_size dword1
