use Rattle.std.proofs.Common.{◌≡◌, ◌∙◌, ◌+◌, ap, arith}
use Rattle.trace_read.proofs.NextLine.{past_lines, refused_next, refused_lines}
use Rattle.trace_read.proofs.parser.parse.Goals as goal

pub returns-then-number-gt-MOST_LINES-clause-parsed :
    goal.returns-then-number-gt-MOST_LINES-clause-parsed
returns-then-number-gt-MOST_LINES-clause-parsed c =
    let past = past_lines c.loop-rest.reader c.split_line.result.0.now
    (omega (arith, c.taken-number.ensures.count)) in
    rw (c.taken-number.ensures.count) (c.loop-rest.invariant
    ∙ rw (c.in-Some.is, c.split_line.ensures.parts) (refused_next c.loop-rest.reader _ _ _ past))

pub returns-in-Err-clause-parsed : goal.returns-in-Err-clause-parsed
returns-in-Err-clause-parsed c =
    let next : c.taken-number.result + 1 ≡ c.loop-rest.reader.taken + 1 = ap (λ n. n + 1)
    c.taken-number.ensures.count in
    rw (c.error_at.ensures, c.loop-rest.invariant, c.in-Some.is, c.split_line.ensures.parts)
    (refused_lines c.loop-rest.reader _ _ _ _ _ c.in-Err.refused next c.in-Err.ensures)
