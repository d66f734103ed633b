-- Worked rows of the table, which the checker computes.
use Rattle.std.proofs.Common.{◌≡◌, ℕ, Option, Some, None, refl}
use Rattle.page_sizes.specs.Sizes.{size_of}
use Rattle.page_sizes.specs.declared.size.PageSize.{PageSize}

abbrev sizes : ℕ → ℕ → Option PageSize
sizes base actual = Some (record { base = base; actual = actual })

-- L clear: 4 KB, whatever the real page number is.
small : size_of 0x1001 0x3000 ≡ sizes 12 12
small = refl

small_of_any_number : size_of 0x1001 0x1000 ≡ sizes 12 12
small_of_any_number = refl

-- L set: the real page number's bits below the size are 1, 0 and 3.
of_64_kb : size_of 0x1005 0x51000 ≡ sizes 16 16
of_64_kb = refl

of_16_mb : size_of 0x1005 0x7000000 ≡ sizes 24 24
of_16_mb = refl

of_16_gb : size_of 0x1005 0x800003000 ≡ sizes 34 34
of_16_gb = refl

-- 7 below 64 KB, 0x38 below 16 MB: a base page of 4 KB.
of_4_kb_in_64_kb : size_of 0x1005 0x17012 ≡ sizes 12 16
of_4_kb_in_64_kb = refl

of_4_kb_in_16_mb : size_of 0x1005 0x7038012 ≡ sizes 12 24
of_4_kb_in_16_mb = refl

-- 8 below 16 MB: a base page of 64 KB.
of_64_kb_in_16_mb : size_of 0x1585 0x3008012 ≡ sizes 16 24
of_64_kb_in_16_mb = refl

-- 2 below each size is no row.
of_no_row : size_of 0x1005 0x2000 ≡ None
of_no_row = refl

-- 3 below 64 KB, but more below 16 GB; 8 below 64 KB, but more below 16 MB.
of_no_row_16_gb : size_of 0x1005 0x203000 ≡ None
of_no_row_16_gb = refl

of_no_row_16_mb : size_of 0x1005 0x18000 ≡ None
of_no_row_16_mb = refl
