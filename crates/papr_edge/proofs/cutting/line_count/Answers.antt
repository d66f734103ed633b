use Rattle.std.proofs.Common.{arith}
use Rattle.papr_edge.proofs.CutLines.{few_lines, some_line}
use Rattle.papr_edge.proofs.cutting.line_count.Goals as goal

pub overflow_add-count : goal.overflow_add-count
overflow_add-count c =
    let more = some_line c.in-Some.text in
    let all = few_lines c.args.bytes.now in
    let sum = rw c.in-Some.is at c.loop-rest.invariant in
    omega (arith, more, all, sum, c.requires)

pub returns-clause-few : goal.returns-clause-few
returns-clause-few c =
    let all = few_lines c.args.bytes.now in
    let sum = rw c.in_default.is at c.loop-rest.invariant in
    omega (arith, all, sum, c.requires)
