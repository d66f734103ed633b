use Rattle.std.proofs.Common.{sym, ap, ◌∙◌, ltb}
use Rattle.trace_read.proofs.Rising.{is_above_last}
use Rattle.trace_read.proofs.entry_line.is_above.Goals as goal

pub returns-in-Some : goal.returns-in-Some
returns-in-Some c =
    ap (λ n. ltb n c.args.index) c.from.ensures
    ∙ is_above_last c.args.entries.now c.in-Some.last.now c.args.index c.requires
    (sym c.in-Some.ensures.value)
