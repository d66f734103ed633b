use Rattle.std.proofs.Common.{◌≡◌, [], ◌∷◌, Some, refl, subst, ap}
use Rattle.trace_io.specs.Memory.{SourceState, taken_bytes}
use Rattle.papr_edge.specs.declared.command.Command.TheVariants as commands
use Rattle.papr_edge.specs.Commands.{command_of}
use Rattle.papr_edge.specs.Inputs.{trace_input}
use Rattle.papr_edge.specs.Ends.{Run, EndsReading, WithDone}
use Rattle.papr_top.specs.Texts.{IsParallelText}
use Rattle.papr_uses.proofs.WholeRuns.{par_word, wrote, by_threads}
use Rattle.papr_uses.proofs.promises.run_threads.Goals as goal

pub returns : goal.returns
returns g c = λ done.
    let word : command_of (c.in-Ok.word ∷ []) ≡ Some commands.Par = par_word c.in-Ok.word
    c.in-Ok.ensures.ok in
    let ran : Run = record {
      left = Some c.new-source.result.left;
      left_after = Some c.papr.new.source.left;
      taken = taken_bytes c.args.sink.now;
      taken_after = taken_bytes c.papr.new.sink;
    } in
    let ends : EndsReading trace_input (WithDone IsParallelText) ran c.papr.result = rw word at
    c.papr.ensures.ends.outcome in
    by_threads c.args.input.items ran
    (wrote IsParallelText c.args.input.items c.papr.new.source.left ran
    (ap (λ (s : SourceState). Some s.left) c.new-source.ensures) refl
    (subst (EndsReading trace_input (WithDone IsParallelText) ran) done ends))
