-- The law that what may be written of a trace under `run` or `par` is judged good.
use Rattle.std.specs.Prelude.{ℕ, List, ◌⊎◌}
use Rattle.trace_read.specs.Trace.{AcceptedTrace}
use Rattle.history_check.specs.declared.verdict.Verdict.TheVariants.{Good}
use Rattle.history_check.specs.Verdict.{IsVerdict}
use Rattle.papr_top.specs.Texts.{IsSerialText, IsParallelText}

-- What may be written of a trace under `run` or `par` has the verdict Good for it.
abbrev pub WrittenTextsAreGood : Type 0
WrittenTextsAreGood =
    (t : AcceptedTrace) (text : List ℕ)
    → IsSerialText t text ⊎ IsParallelText t text
    → IsVerdict t text Good
