use Rattle.std.proofs.lemmas.Result.{err_from_is_err_and}
use Rattle.papr_edge.proofs.Outcomes.{refused_long}
use Rattle.papr_edge.proofs.reading.read_input.Goals as goal

pub returns-in_err-bytes-clause-input : goal.returns-in_err-bytes-clause-input
returns-in_err-bytes-clause-input g c =
    let p = err_from_is_err_and c.from_residual.result c.from_residual.ensures.1 in
    rw (p.1, p.2)
    (refused_long g.I.Input.reads c.in_err-bytes.field-0.0 _ _ g.met.I.Input.refuses_long
    c.in_err-bytes.ensures.long)
