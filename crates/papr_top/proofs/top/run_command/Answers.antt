use Rattle.std.proofs.Common.{◌≡◌, ◌∙◌, Some, ap, rules}
use Rattle.papr_edge.specs.declared.command.Command.TheVariants as commands
use Rattle.papr_edge.specs.Ends.{WithDone}
use Rattle.papr_edge.specs.Inputs.{trace_input, judged_input}
use Rattle.papr_edge.proofs.Outcomes.{ends_said}
use Rattle.papr_top.specs.Texts.{IsSerialText}
use Rattle.papr_top.specs.Judging.{IsVerdictText}
use Rattle.papr_top.specs.Images.{IsImage}
use Rattle.papr_top.specs.Sets.{set_input, IsSetText}
use Rattle.papr_top.proofs.CommandEnds.{run_ends, check_ends, set_ends, image_ends}
use Rattle.papr_top.proofs.top.run_command.Goals as goal

pub returns-in-Some-Run-clause-ends : goal.returns-in-Some-Run-clause-ends
returns-in-Some-Run-clause-ends g c =
    let arm : c.in-Some-Run.field-0 ≡ commands.Run =
    rw c.in-Some-Run.is at c.in-Some-Run.field-0-is in
    let asked : c.args.command ≡ Some commands.Run = c.in-Some-Run.is ∙ ap Some arm in
    let left = g.S.Source.left in
    let taken = g.K.Sink.taken in
    let said = ends_said trace_input _ (WithDone IsSerialText)
    (record {
      left = left c.args.source.now;
      left_after = left c.answer_input.new.source;
      taken = taken c.args.sink.now;
      taken_after = taken c.answer_input.new.sink;
    }) c.answer_input.result (λ x answer made. search rules) c.answer_input.ensures.outcome in
    rw asked (run_ends _ c.answer_input.result said (search rules))

pub returns-in-Some-Check-clause-ends : goal.returns-in-Some-Check-clause-ends
returns-in-Some-Check-clause-ends g c =
    let arm : c.in-Some-Check.field-0 ≡ commands.Check =
    rw c.in-Some-Check.is at c.in-Some-Check.field-0-is in
    let asked : c.args.command ≡ Some commands.Check = c.in-Some-Check.is ∙ ap Some arm in
    let left = g.S.Source.left in
    let taken = g.K.Sink.taken in
    let said = ends_said judged_input _ IsVerdictText
    (record {
      left = left c.args.source.now;
      left_after = left c.answer_input-in-Some-Check.new.source;
      taken = taken c.args.sink.now;
      taken_after = taken c.answer_input-in-Some-Check.new.sink;
    }) c.answer_input-in-Some-Check.result (λ x answer made. search rules)
    c.answer_input-in-Some-Check.ensures.outcome in
    rw asked (check_ends _ c.answer_input-in-Some-Check.result said (search rules))

pub returns-in-Some-Set-clause-ends : goal.returns-in-Some-Set-clause-ends
returns-in-Some-Set-clause-ends g c =
    let arm : c.in-Some-Set.field-0 ≡ commands.Set =
    rw c.in-Some-Set.is at c.in-Some-Set.field-0-is in
    let asked : c.args.command ≡ Some commands.Set = c.in-Some-Set.is ∙ ap Some arm in
    let left = g.S.Source.left in
    let taken = g.K.Sink.taken in
    let said = ends_said set_input _ (WithDone IsSetText)
    (record {
      left = left c.args.source.now;
      left_after = left c.answer_input-in-Some-Set.new.source;
      taken = taken c.args.sink.now;
      taken_after = taken c.answer_input-in-Some-Set.new.sink;
    }) c.answer_input-in-Some-Set.result (λ x answer made. search rules)
    c.answer_input-in-Some-Set.ensures.outcome in
    rw asked (set_ends _ c.answer_input-in-Some-Set.result said (search rules))

pub returns-in-Some-Image-clause-ends : goal.returns-in-Some-Image-clause-ends
returns-in-Some-Image-clause-ends g c =
    let arm : c.in-Some-Image.field-0 ≡ commands.Image c.in-Some-Image.layout =
    rw c.in-Some-Image.is at c.in-Some-Image.field-0-is in
    let asked : c.args.command ≡ Some (commands.Image c.in-Some-Image.layout) = c.in-Some-Image.is ∙
    ap Some arm in
    let left = g.S.Source.left in
    let taken = g.K.Sink.taken in
    let said = ends_said trace_input _ (IsImage c.in-Some-Image.layout)
    (record {
      left = left c.args.source.now;
      left_after = left c.answer_input-in-Some-Image.new.source;
      taken = taken c.args.sink.now;
      taken_after = taken c.answer_input-in-Some-Image.new.sink;
    }) c.answer_input-in-Some-Image.result (λ x answer made. search rules)
    c.answer_input-in-Some-Image.ensures.outcome in
    rw asked
    (image_ends c.in-Some-Image.layout _ c.answer_input-in-Some-Image.result said
    (search rules))
