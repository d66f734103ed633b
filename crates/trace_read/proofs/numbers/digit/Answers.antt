-- The table is held against the definition at each byte, by computing.
use Rattle.std.proofs.Common.{◌≡◌, ◌∙◌, ℕ, ◌<◌, List, ap, get_or, map, refl, arith}
use Rattle.std.specs.Char.{digit_value}
use Rattle.std.specs.List.{range_with_len}
use Rattle.std.proofs.lemmas.List.FromFn.{get_or-map-range_with_len}
use Rattle.trace_read.specs.declared.numbers.TheConstants.{DIGITS}
use Rattle.trace_read.proofs.numbers.digit.Goals as goal

table_is : DIGITS ≡ map digit_value (range_with_len 0 256)
table_is = refl

table_at : (c : ℕ) → c < 256 → get_or DIGITS c 0 ≡ digit_value c
table_at c byte =
    ap (λ (t : List ℕ). get_or t c 0) table_is
    ∙ get_or-map-range_with_len digit_value 0 256 c c 0 byte (omega arith)

pub returns : goal.returns
returns c = rw c.from.ensures (table_at c.args.c (omega arith))
