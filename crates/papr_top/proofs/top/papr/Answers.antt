use Rattle.std.proofs.Common.{◌≡◌, Some, rules}
use Rattle.papr_edge.specs.Commands.{command_of}
use Rattle.papr_edge.specs.declared.command.Command.TheVariants as commands
use Rattle.papr_edge.specs.Ends.{WithDone}
use Rattle.papr_edge.specs.Inputs.{trace_input}
use Rattle.papr_edge.proofs.Outcomes.{ends_said}
use Rattle.papr_top.specs.Texts.{IsParallelText}
use Rattle.papr_top.proofs.CommandEnds.{par_ends}
use Rattle.papr_top.proofs.top.papr.Goals as goal

pub returns-in-Some-Par-clause-ends : goal.returns-in-Some-Par-clause-ends
returns-in-Some-Par-clause-ends g c =
    let asked : command_of c.args.words.now ≡ Some commands.Par = cc in
    let left = g.S.Source.left in
    let taken = g.K.Sink.taken in
    let said = ends_said trace_input _ (WithDone IsParallelText)
    (record {
      left = left c.args.source.now;
      left_after = left c.answer_input.new.source;
      taken = taken c.args.sink.now;
      taken_after = taken c.answer_input.new.sink;
    }) c.answer_input.result (λ x answer made. search rules) c.answer_input.ensures.outcome in
    rw asked (par_ends _ c.answer_input.result said (search rules))
