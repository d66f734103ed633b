use Rattle.std.proofs.lemmas.Str.{IsUtf8-from_ascii}
use Rattle.table_image.proofs.image.put_line.Goals as goal

pub from_utf8_unchecked-requires : goal.from_utf8_unchecked-requires
from_utf8_unchecked-requires c =
    IsUtf8-from_ascii c.as_slice.result.now (rw c.as_slice.ensures c.requires)
