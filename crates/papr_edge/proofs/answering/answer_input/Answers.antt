use Rattle.std.proofs.Common.{refl}
use Rattle.std.proofs.lemmas.Fn.{gave_at}
use Rattle.std.specs.Fn.{FnOnceReturnsAt}
use Rattle.papr_edge.specs.Answer.{answer_status, answer_text, IsMade}
use Rattle.papr_edge.specs.Finish.{Finishes}
use Rattle.papr_edge.proofs.Outcomes.{answered, refused}
use Rattle.papr_edge.proofs.answering.answer_input.Goals as goal

pub returns-in-Ok-answer_of-clause-outcome : goal.returns-in-Ok-answer_of-clause-outcome
returns-in-Ok-answer_of-clause-outcome g c =
    let left = g.S.Source.left in
    let taken = g.K.Sink.taken in
    let faults = g.K.Sink.faults in
    let answer = c.in-Ok-answer_of.answer in
    let finishes : Finishes (answer_status answer) (answer_text answer) (taken c.args.sink.now)
    (taken c.finish.new.sink) (faults c.args.sink.now) (faults c.finish.new.sink)
    c.finish.result = rw (c.as_bytes.ensures, c.status.ensures) at c.finish.ensures.end in
    answered g.I.Input.reads (IsMade (FnOnceReturnsAt g.F.FnOnce c.args.answer_of))
    (record {
      left = left c.args.source.now;
      left_after = left c.read_input.new.source;
      taken = taken c.args.sink.now;
      taken_after = taken c.finish.new.sink;
    }) c.in-Ok.input answer (faults c.args.sink.now) (faults c.finish.new.sink) c.finish.result
    c.in-Ok.ensures.input
    (record {
      answer = answer;
      given = gave_at g.F.FnOnce c.answer_of.ensures c.in-Ok-answer_of.is;
      comes = refl;
      is = refl;
    }) finishes

pub returns-clause-outcome : goal.returns-clause-outcome
returns-clause-outcome g c =
    let left = g.S.Source.left in
    let taken = g.K.Sink.taken in
    let faults = g.K.Sink.faults in
    refused g.I.Input.reads (IsMade (FnOnceReturnsAt g.F.FnOnce c.args.answer_of))
    (record {
      left = left c.args.source.now;
      left_after = left c.read_input.new.source;
      taken = taken c.args.sink.now;
      taken_after = taken c.refuse.new.sink;
    }) c.in-Err.error (faults c.args.sink.now) (faults c.refuse.new.sink) c.refuse.result
    c.in-Err.ensures.input c.refuse.ensures.end
