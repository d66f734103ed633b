-- The size of a hashed page table: entries of 16 bytes, in groups of eight.
use Rattle.std.specs.Prelude.{ℕ, ◌-◌, ◌^◌, ◌≤◌, ◌&&◌, Bool, nat_le}
use Rattle.pool_range.specs.Ranges.{least_pool_order, greatest_pool_order}

-- The order of the smallest table, which fills the smallest range of a pool.
abbrev pub least_order : ℕ
least_order = least_pool_order

-- The order of the largest table, which fills the largest range.
abbrev pub greatest_order : ℕ
greatest_order = greatest_pool_order

-- A table may have 2 ^ order bytes.
abbrev pub IsTableOrder : ℕ → Type 0
IsTableOrder order = (least_order ≤ order) × (order ≤ greatest_order)

-- Whether a table may have 2 ^ order bytes, as a test.
abbrev pub is_table_order : ℕ → Bool
is_table_order order = nat_le least_order order && nat_le order greatest_order

-- A group has eight entries.
abbrev pub group_size : ℕ
group_size = 8

-- The order of the largest table that the architecture has.
abbrev pub greatest_architected_order : ℕ
greatest_architected_order = 46

-- The architecture has tables of 2 ^ order bytes.
abbrev pub is_architected_order : ℕ → Bool
is_architected_order order = nat_le least_order order && nat_le order greatest_architected_order

-- A table of 2 ^ order bytes has 2 ^ (order - 4) entries of 16 bytes.
abbrev pub entry_count : ℕ → ℕ
entry_count order = 2 ^ (order - 4)

-- A table of 2 ^ order bytes has 2 ^ (order - 7) groups of eight entries.
abbrev pub group_count : ℕ → ℕ
group_count order = 2 ^ (order - 7)
