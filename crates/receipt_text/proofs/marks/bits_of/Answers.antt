use Rattle.std.proofs.Common.{◌∙◌, sym, arith}
use Rattle.std.proofs.lemmas.Fmt.{decimal_injective}
use Rattle.receipt_text.proofs.marks.bits_of.Goals as goal

pub returns-else-bits-lt4-clause-none : goal.returns-else-bits-lt4-clause-none
returns-else-bits-lt4-clause-none c =
    λ n small is.
    omega (
      arith,
      decimal_injective n c.in_ok-bits.bits (omega arith) (omega arith)
          (is ∙ sym c.in_ok-bits.ensures.some),
    )
