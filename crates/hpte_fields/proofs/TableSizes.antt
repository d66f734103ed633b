-- How many entries a table can have.
use Rattle.std.proofs.Common.{◌≡◌, ℕ, ◌-◌, ◌^◌, ◌<◌, ◌≤◌, arith}
use Rattle.std.proofs.Math.Pow.{pow_mono}
use Rattle.hpte_fields.specs.TableSize.{IsTableOrder, entry_count, greatest_order, group_count}

-- It has no more than the largest table, which has 2 ^ 30.
pub entries_few :
    (n order : ℕ) → n ≡ entry_count order → IsTableOrder order → n ≤ entry_count greatest_order
entries_few n order size fits =
    let most : 2 ^ (order - 4) ≤ 2 ^ 30 = pow_mono {i = order - 4} {j = 30} (omega (arith, fits.1))
    in
    omega (arith, size, most)

-- A group of a table is below the count of groups of the largest.
pub groups_few :
    (n order : ℕ) → n < group_count order → IsTableOrder order → n < group_count greatest_order
groups_few n order below fits =
    let most : 2 ^ (order - 7) ≤ 2 ^ 27 = pow_mono {i = order - 7} {j = 27} (omega (arith, fits.1))
    in
    omega (arith, below, most)
