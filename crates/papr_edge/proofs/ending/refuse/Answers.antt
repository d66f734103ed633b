use Rattle.std.proofs.Common.{sym, subst, inl}
use Rattle.papr_edge.specs.declared.status.Status.TheVariants.{Refused}
use Rattle.papr_edge.specs.Inputs.{refusal_text}
use Rattle.papr_edge.specs.Finish.{Finishes, EndsRefused}
use Rattle.papr_edge.proofs.ending.refuse.Goals as goal

pub returns-in-Ok-clause-end : goal.returns-in-Ok-clause-end
returns-in-Ok-clause-end g c =
    let taken = g.K.Sink.taken in
    let faults = g.K.Sink.faults in
    let finishes : Finishes Refused (refusal_text c.in-Refused.line c.in-Refused.reason)
    (taken c.args.sink.now) (taken c.finish.new.sink) (faults c.args.sink.now)
    (faults c.finish.new.sink) c.finish.result = rw (c.as_bytes.ensures.value, c.in-Ok.ensures)
    at c.finish.ensures.end in
    subst
    (λ error.
    EndsRefused error (taken c.args.sink.now) (taken c.finish.new.sink)
    (faults c.args.sink.now) (faults c.finish.new.sink) c.finish.result)
    (sym c.in-Refused.is) (inl finishes)
