-- How each command ends, from what it read and wrote, and from its faults.
use Rattle.std.proofs.Common.{◌≡◌, ◌≢◌, ◌⊎◌, ℕ, List, Some, Result, IsSomeAnd, IsOk, IsErr, refl, inl, inr}
use Rattle.table_image.specs.declared.layout.Layout.{Layout}
use Rattle.papr_edge.specs.declared.command.Command.{Command}
use Rattle.papr_edge.specs.declared.command.Command.TheVariants as commands
use Rattle.papr_edge.specs.declared.reason.Reason.{Reason}
use Rattle.papr_edge.specs.declared.status.Status.{Status}
use Rattle.papr_edge.specs.declared.status.Status.TheVariants.{Done, Usage, Refused, ReadFault, WriteFault, Memory, CheckNo}
use Rattle.papr_edge.specs.Ends.{Run, EndsReading, EndsAnswered, WithDone}
use Rattle.papr_edge.specs.Inputs.{trace_input, judged_input}
use Rattle.papr_edge.specs.InputLaws.{long_trace, long_judged}
use Rattle.papr_edge.specs.Reading.{RefusesLong}
use Rattle.papr_edge.proofs.Completeness.{text_done, judged_done, reading_refused}
use Rattle.papr_edge.proofs.Outcomes.{ends_reading}
use Rattle.papr_top.specs.Texts.{IsSerialText, IsParallelText}
use Rattle.papr_top.specs.Judging.{IsVerdictText}
use Rattle.papr_top.specs.Images.{IsImage}
use Rattle.papr_top.specs.Sets.{set_input, IsSetText}
use Rattle.papr_top.specs.InputLaws.{long_set}
use Rattle.papr_top.specs.Top.{IsOutcome, HasInput, HasRefusedInput, EndsUsage}
use Rattle.papr_top.specs.Ends.{Sides, TellsFaults, SourceFailed, SinkFailed, EndsCommand}
use Rattle.papr_top.proofs.Endings.{verdict_told}
use Rattle.papr_top.proofs.ImageEnds.{as_image, image_done, image_refused}

-- A side that hasn't failed is not answered as failed.
no_read_fault :
    (sides : Sides) (status : Status)
    → TellsFaults sides status
    → ¬ SourceFailed sides
    → status ≢ ReadFault
no_read_fault sides status faults stands is = stands (faults.read_fault is)

no_write_fault :
    (sides : Sides) (status : Status)
    → TellsFaults sides status
    → ¬ SinkFailed sides
    → status ≢ WriteFault
no_write_fault sides status faults stands is = stands (faults.write_fault is)

-- ---- commands that write a text of their input
-- A command whose outcome and whose inputs are these.
text_ends :
    {A : Type 0} (reads : List ℕ → Result A (ℕ × Reason)) (says : A → List ℕ → Type 0)
    (command : Command) (sides : Sides) (status : Status)
    → RefusesLong reads
    →
    (EndsReading reads (WithDone says) sides.run status
    → IsOutcome (Some command) sides.run status)
    →
    (HasInput (Some command) sides.run.left
    → IsSomeAnd sides.run.left (λ input. IsOk (reads input)))
    →
    (HasRefusedInput (Some command) sides.run.left
    → IsSomeAnd sides.run.left (λ input. IsErr (reads input)))
    → EndsAnswered reads (WithDone says) sides.run status
    → TellsFaults sides status
    → EndsCommand (Some command) sides status
text_ends reads says command sides status refuses outcome input refused said faults =
    let ended : EndsReading reads (WithDone says) sides.run status = ends_reading reads
    (WithDone says) sides.run status (λ x text none. none) said in
    record {
      outcome = outcome ended;
      usage = λ none. cc;
      complete =
          λ has source sink.
          text_done reads (Some command) says sides.run status refuses ended (input has)
          (no_read_fault sides status faults source) (no_write_fault sides status faults sink);
      refuses =
          λ has source sink.
          reading_refused reads (WithDone says) sides.run status refuses ended (refused has)
          (no_read_fault sides status faults source) (no_write_fault sides status faults sink);
      faults = faults;
    }

pub run_ends :
    (sides : Sides) (status : Status)
    → EndsAnswered trace_input (WithDone IsSerialText) sides.run status
    → TellsFaults sides status
    → EndsCommand (Some commands.Run) sides status
run_ends sides status =
    text_ends trace_input IsSerialText commands.Run sides status long_trace (λ ended. ended)
    (λ has. has) (λ has. has)

pub par_ends :
    (sides : Sides) (status : Status)
    → EndsAnswered trace_input (WithDone IsParallelText) sides.run status
    → TellsFaults sides status
    → EndsCommand (Some commands.Par) sides status
par_ends sides status =
    text_ends trace_input IsParallelText commands.Par sides status long_trace (λ ended. ended)
    (λ has. has) (λ has. has)

pub set_ends :
    (sides : Sides) (status : Status)
    → EndsAnswered set_input (WithDone IsSetText) sides.run status
    → TellsFaults sides status
    → EndsCommand (Some commands.Set) sides status
set_ends sides status =
    text_ends set_input IsSetText commands.Set sides status long_set (λ ended. ended) (λ has. has)
    (λ has. has)

-- ---- the other commands
pub check_ends :
    (sides : Sides) (status : Status)
    → EndsAnswered judged_input IsVerdictText sides.run status
    → TellsFaults sides status
    → EndsCommand (Some commands.Check) sides status
check_ends sides status said faults =
    let ended : EndsReading judged_input IsVerdictText sides.run status = ends_reading judged_input
    IsVerdictText sides.run status verdict_told said in
    record {
      outcome = ended;
      usage = λ none. cc;
      complete =
          λ has source sink.
          judged_done IsVerdictText sides.run status ended has
          (no_read_fault sides status faults source) (no_write_fault sides status faults sink);
      refuses =
          λ has source sink.
          reading_refused judged_input IsVerdictText sides.run status long_judged ended has
          (no_read_fault sides status faults source) (no_write_fault sides status faults sink);
      faults = faults;
    }

pub image_ends :
    (layout : Layout) (sides : Sides) (status : Status)
    → EndsAnswered trace_input (IsImage layout) sides.run status
    → TellsFaults sides status
    → EndsCommand (Some (commands.Image layout)) sides status
image_ends layout sides status said faults =
    record {
      outcome = as_image layout sides.run status said;
      usage = λ none. cc;
      complete =
          λ has source sink.
          image_done layout sides.run status (as_image layout sides.run status said) has
          (no_read_fault sides status faults source) (no_write_fault sides status faults sink);
      refuses =
          λ has source sink.
          image_refused layout sides.run status (as_image layout sides.run status said) has
          (no_read_fault sides status faults source) (no_write_fault sides status faults sink);
      faults = faults;
    }

used :
    (run : Run) (status : Status) → EndsUsage run status → (status ≡ Usage) ⊎ (status ≡ WriteFault)
used run Usage ended = inl refl
used run WriteFault ended = inr refl
used run Done ended = absurd ended
used run Refused ended = absurd ended
used run ReadFault ended = absurd ended
used run Memory ended = absurd ended
used run CheckNo ended = absurd ended
