use Rattle.std.proofs.Common.{◌≡◌, ◌⊎◌, inl, inr, [], ◌∷◌, Some, refl, subst, ap}
use Rattle.trace_io.specs.Memory.{SourceState, taken_bytes}
use Rattle.papr_edge.specs.declared.command.Command.TheVariants as commands
use Rattle.papr_edge.specs.Commands.{command_of}
use Rattle.papr_edge.specs.declared.status.Status.TheVariants.{Memory}
use Rattle.papr_edge.specs.Inputs.{trace_input}
use Rattle.papr_edge.specs.Ends.{Run, EndsReading, WithDone, IsAnswered}
use Rattle.papr_top.specs.Texts.{IsSerialText}
use Rattle.papr_uses.proofs.WholeRuns.{run_word, never_rose, answered, wrote, run_done, trace_accepted, trace_refused}
use Rattle.papr_uses.proofs.programs.run_program.Goals as goal

pub returns-clause-complete : goal.returns-clause-complete
returns-clause-complete c = λ accepted.
    let word : command_of (c.in-Ok.word ∷ []) ≡ Some commands.Run = run_word c.in-Ok.word
    c.in-Ok.ensures.ok in
    let complete = c.papr_serial.ensures.ends.complete
    (rw (word, c.new-source.ensures) (trace_accepted c.args.input.items accepted)) never_rose
    never_rose in
    let done : IsAnswered (Some commands.Run) c.papr_serial.result ⊎ (c.papr_serial.result ≡ Memory)
    = rw word at complete in
    elim done [ inl is ↦ inl (run_done c.papr_serial.result is) | inr memory ↦ inr memory ]

pub returns-clause-refuses : goal.returns-clause-refuses
returns-clause-refuses c = λ refused.
    let word : command_of (c.in-Ok.word ∷ []) ≡ Some commands.Run = run_word c.in-Ok.word
    c.in-Ok.ensures.ok in
    c.papr_serial.ensures.ends.refuses
    (rw (word, c.new-source.ensures) (trace_refused c.args.input.items refused)) never_rose
    never_rose

pub returns-clause-text : goal.returns-clause-text
returns-clause-text c = λ done.
    let word : command_of (c.in-Ok.word ∷ []) ≡ Some commands.Run = run_word c.in-Ok.word
    c.in-Ok.ensures.ok in
    let ran : Run = record {
      left = Some c.new-source.result.left;
      left_after = Some c.papr_serial.new.source.left;
      taken = taken_bytes c.args.sink.now;
      taken_after = taken_bytes c.papr_serial.new.sink;
    } in
    let ends : EndsReading trace_input (WithDone IsSerialText) ran c.papr_serial.result = rw word at
    c.papr_serial.ensures.ends.outcome in
    answered c.args.input.items ran
    (wrote IsSerialText c.args.input.items c.papr_serial.new.source.left ran
    (ap (λ (s : SourceState). Some s.left) c.new-source.ensures) refl
    (subst (EndsReading trace_input (WithDone IsSerialText) ran) done ends))
