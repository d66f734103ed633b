-- Addresses within a page.
use Rattle.std.proofs.Common.{◌≡◌, ℕ, ◌<◌, ◌≤◌, ◌*◌, ◌-◌, ◌%◌, ◌^◌, bit_and, arith}
use Rattle.std.proofs.Math.Nat.{mod-lt, one-le-pow}
use Rattle.std.proofs.lemmas.Nat.{and_mask}
use Rattle.std.proofs.Math.Pow.{pow_mono}
use Rattle.pool_range.proofs.Accepted.{shifted}

pub masked :
    (ea actual : ℕ)
    → actual ≤ 34
    → bit_and ea (1 * 2 ^ actual % 2 ^ 64 - 1) ≡ ea % 2 ^ actual
masked ea actual small = rw (shifted actual small) (and_mask ea actual)

pub masked_small :
    (ea actual : ℕ)
    → actual ≤ 34
    → bit_and ea (1 * 2 ^ actual % 2 ^ 64 - 1) < 17179869184
masked_small ea actual small =
    let below : ea % 2 ^ actual < 2 ^ actual = mod-lt ea (one-le-pow actual 2 (omega arith)) in
    let most : 2 ^ actual ≤ 2 ^ 34 = pow_mono {i = actual} {j = 34} small in
    rw (masked ea actual small) (omega (arith, below, most))
