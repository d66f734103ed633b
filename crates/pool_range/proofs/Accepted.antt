-- Two numbers that nothing refuses are a range.
use Rattle.std.proofs.Common.{◌≡◌, ℕ, ◌*◌, ◌%◌, ◌^◌, ◌≤◌, arith}
use Rattle.std.proofs.Math.Pow.{pow_mono}
use Rattle.std.proofs.Math.Nat.{mod-eq_of_lt}

pub shifted : (order : ℕ) → order ≤ 34 → 1 * 2 ^ order % 2 ^ 64 ≡ 2 ^ order
shifted order small =
    let most : 2 ^ order ≤ 2 ^ 34 = pow_mono {i = order} {j = 34} small in
    omega (arith, mod-eq_of_lt {n = 1 * 2 ^ order} {m = 2 ^ 64} (omega arith))
