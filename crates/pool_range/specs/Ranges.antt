-- The ranges of machine memory that can be kept for page tables.
use Rattle.std.specs.Prelude.{◌≡◌, ◌≤◌, ℕ, ◌+◌, ◌%◌, ◌^◌, ◌==◌, not, ◌||◌, nat_lt, if◌then◌else◌, Option, Some, None}
use Rattle.pool_range.specs.declared.range.RangeError.{RangeError}
use Rattle.pool_range.specs.declared.range.RangeError.TheVariants.{Order, Unaligned, Past}

-- The end of the guest's logical addresses and of machine addresses.
abbrev pub address_end : ℕ
address_end = 2 ^ 60

-- The bytes of a page: grants consist of whole pages, and so do DMA windows.
abbrev pub page_bytes : ℕ
page_bytes = 4096

-- The order of the smallest range, which has 2 ^ 18 bytes: those of the smallest table.
abbrev pub least_pool_order : ℕ
least_pool_order = 18

-- The order of the largest range, which has 2 ^ 34 bytes: those of the largest table.
abbrev pub greatest_pool_order : ℕ
greatest_pool_order = 34

-- The range has one of these orders, is aligned to its size and ends at most at the end of
-- addresses.
pub record IsPoolRange (base order : ℕ) : Type 0 where
  pub at_least : least_pool_order ≤ order
  pub at_most : order ≤ greatest_pool_order
  pub aligned : base % 2 ^ order ≡ 0
  pub to_end : base + 2 ^ order ≤ address_end

-- What is wrong with two numbers: the tests are tried in this order, and the first that fails says
-- why.
unfoldable pub range_refusal : ℕ → ℕ → Option RangeError
range_refusal base order =
    if nat_lt order least_pool_order || nat_lt greatest_pool_order order then Some Order
    else if not (base % 2 ^ order == 0) then Some Unaligned
    else if nat_lt address_end (base + 2 ^ order) then Some Past
    else None
