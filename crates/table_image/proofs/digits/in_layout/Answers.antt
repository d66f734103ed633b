use Rattle.std.proofs.Common.{◌≡◌, ℕ, ◌*◌, ◌/◌, ◌%◌, ◌^◌, ◌<◌, Some, arith, bit_and, bit_or, refl}
use Rattle.std.specs.Int.Bits.{and_mask}
use Rattle.table_image.specs.Layouts.{laid_out, unheld, segment_bits}
use Rattle.table_image.specs.declared.layout.Layout.TheVariants.{New}
use Rattle.table_image.proofs.BitFields.{bits_joined}
use Rattle.table_image.proofs.digits.in_layout.Goals as goal

-- The masks and the shifts are the newer layout's doublewords.
newer :
    (h l : ℕ)
    → h < 2 ^ 64
    → bit_and h unheld ≡ 0
    → bit_and l segment_bits ≡ 0
    → Some (bit_and h 0xFFFFFFFFFFFFF, bit_or l (h / 2 ^ 62 * 2 ^ 58 % 2 ^ 64))
    ≡ laid_out New (h, l)
newer h l fits held free =
    let small : h / 2 ^ 62 < 4 = omega arith in
    let whole : h / 2 ^ 62 * 2 ^ 58 % 2 ^ 64 ≡ h / 2 ^ 62 * 2 ^ 58 = omega arith in
    rw (held, free, whole, and_mask h 52, bits_joined l (h / 2 ^ 62) small free) refl

pub returns-else-dword1-ne0 : goal.returns-else-dword1-ne0
returns-else-dword1-ne0 c =
    rw c.in-New.is
    (newer c.args.dword0 c.args.dword1 c.ranges.dword0.fits c.if-dword0-ne0.false
    c.if-dword1-ne0.false)
