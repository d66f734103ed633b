use Rattle.std.proofs.Common.{◌≡◌, ◌*◌, ◌%◌, ◌^◌, arith, bit_and}
use Rattle.std.specs.Int.Bits.{and_le_r}
use Rattle.std.proofs.Math.Nat.{mod-eq_of_lt}
use Rattle.hpte_fields.proofs.second.protected.Goals as goal

-- the shifted flag bits fit 64 bits
pub returns : goal.returns
returns c =
    let pp0 : bit_and c.args.flags 256 * 2 ^ 55 % 2 ^ 64 ≡ bit_and c.args.flags 256 * 2 ^ 55 =
    mod-eq_of_lt {n = bit_and c.args.flags 256 * 2 ^ 55} {m = 2 ^ 64}
    (omega (arith, and_le_r c.args.flags 256)) in
    let key : bit_and c.args.flags 12288 * 2 ^ 48 % 2 ^ 64 ≡ bit_and c.args.flags 12288 * 2 ^ 48 =
    mod-eq_of_lt {n = bit_and c.args.flags 12288 * 2 ^ 48} {m = 2 ^ 64}
    (omega (arith, and_le_r c.args.flags 12288)) in
    rw (pp0, key)
