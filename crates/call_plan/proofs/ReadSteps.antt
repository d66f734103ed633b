-- The four entries of H_READ_4.
use Rattle.std.proofs.Common.{◌≡◌, ℕ, ◌+◌, ◌-◌, ◌*◌, ◌/◌, ◌^◌, ◌<◌, ◌≤◌, arith, ap, ◌∙◌, pow-add}
use Rattle.hpte_fields.specs.TableSize.{least_order}

-- A table is whole fours of entries.
pub whole_fours : (order : ℕ) → least_order ≤ order → 2 ^ (order - 4) ≡ 2 ^ (order - 6) * 4
whole_fours order low =
    let e : order - 4 ≡ (order - 6) + 2 = omega arith in
    ap (λ n. 2 ^ n) e ∙ pow-add 2 (order - 6) 2

-- The four entries that an entry of the table lies among are in it.
pub fours_in_table :
    (order ptex : ℕ)
    → least_order ≤ order
    → ptex < 2 ^ (order - 4)
    → ptex / 4 * 4 + 3 < 2 ^ (order - 4)
fours_in_table order ptex low h = let whole = whole_fours order low in omega arith
