use Rattle.std.proofs.Common.{◌≡◌, [], ◌∷◌, Some, refl, subst, ap}
use Rattle.trace_io.specs.Memory.{SourceState, taken_bytes}
use Rattle.papr_edge.specs.declared.command.Command.TheVariants as commands
use Rattle.papr_edge.specs.Commands.{command_of}
use Rattle.papr_edge.specs.Inputs.{trace_input}
use Rattle.papr_edge.specs.Ends.{Run, EndsReading, WithDone}
use Rattle.papr_top.specs.Texts.{IsSerialText}
use Rattle.papr_uses.proofs.WholeRuns.{run_word, wrote, serially}
use Rattle.papr_uses.proofs.promises.run_serially.Goals as goal

pub returns : goal.returns
returns c = λ done.
    let word : command_of (c.in-Ok.word ∷ []) ≡ Some commands.Run = run_word c.in-Ok.word
    c.in-Ok.ensures.ok in
    let ran : Run = record {
      left = Some c.new-source.result.left;
      left_after = Some c.papr_serial.new.source.left;
      taken = taken_bytes c.args.sink.now;
      taken_after = taken_bytes c.papr_serial.new.sink;
    } in
    let ends : EndsReading trace_input (WithDone IsSerialText) ran c.papr_serial.result = rw word at
    c.papr_serial.ensures.ends.outcome in
    serially c.args.input.items ran
    (wrote IsSerialText c.args.input.items c.papr_serial.new.source.left ran
    (ap (λ (s : SourceState). Some s.left) c.new-source.ensures) refl
    (subst (EndsReading trace_input (WithDone IsSerialText) ran) done ends))
