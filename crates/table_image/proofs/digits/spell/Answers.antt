use Rattle.std.proofs.Common.{◌∙◌, refl}
use Rattle.table_image.proofs.digits.spell.Goals as goal

pub returns : goal.returns
returns c =
    (rw c.unwrap.ensures at c.encode_to_slice.ensures.written)
    ∙ rw (c.write_u64-2.ensures, c.write_u64.ensures) refl
