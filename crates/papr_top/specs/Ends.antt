-- What each exit status says of the bytes read and written, and of faults.
use Rattle.std.specs.Prelude.{◌≡◌, ◌≢◌, ◌≤◌, ◌⊎◌, ℕ, Bool, true, false, Option, Some, None}
use Rattle.trace_io.specs.Outside.{Rose}
use Rattle.papr_edge.specs.Ends.{Run, IsAnswered}
use Rattle.papr_edge.specs.declared.command.Command.{Command}
use Rattle.papr_edge.specs.declared.command.Command.TheVariants as commands
use Rattle.papr_edge.specs.declared.status.Status.{Status}
use Rattle.papr_edge.specs.declared.status.Status.TheVariants.{Usage, Refused, ReadFault, WriteFault, Memory}
use Rattle.papr_top.specs.Top.{IsOutcome, HasInput, HasRefusedInput}

-- What a call has before it and leaves: the bytes of the source and of the sink, and how often each
-- of the two has failed.
pub record Sides : Type 0 where
  pub run : Run
  pub source_faults : ℕ
  pub source_faults_after : ℕ
  pub sink_faults : ℕ
  pub sink_faults_after : ℕ

-- The source failed in the call.
abbrev pub SourceFailed : Sides → Type 0
SourceFailed sides = Rose sides.source_faults sides.source_faults_after

-- The sink failed in the call.
abbrev pub SinkFailed : Sides → Type 0
SinkFailed sides = Rose sides.sink_faults sides.sink_faults_after

-- A fault that is answered is one of the source's or of the sink's own, and else their counts
-- stand.
pub record TellsFaults (sides : Sides) (status : Status) : Type 0 where
  pub read_fault : status ≡ ReadFault → SourceFailed sides
  pub write_fault : status ≡ WriteFault → SinkFailed sides
  pub no_read_fault : status ≢ ReadFault → sides.source_faults_after ≡ sides.source_faults
  pub no_write_fault : status ≢ WriteFault → sides.sink_faults_after ≡ sides.sink_faults
  pub source_faults : sides.source_faults ≤ sides.source_faults_after
  pub sink_faults : sides.sink_faults ≤ sides.sink_faults_after

-- What holds of a call with these words, a command or none, when it answers this status.
pub record EndsCommand (command : Option Command) (sides : Sides) (status : Status) : Type 0 where
  -- what was read and written
  pub outcome : IsOutcome command sides.run status
  -- the words alone decide whether they are used rightly
  pub usage : command ≡ None → (status ≡ Usage) ⊎ (status ≡ WriteFault)
  -- a command that has its input is done where nothing fails, unless memory ends
  pub complete :
      HasInput command sides.run.left
      → ¬ SourceFailed sides
      → ¬ SinkFailed sides
      → IsAnswered command status ⊎ (status ≡ Memory)
  -- an input that can't be read so is refused there, unless memory ends
  pub refuses :
      HasRefusedInput command sides.run.left
      → ¬ SourceFailed sides
      → ¬ SinkFailed sides
      → (status ≡ Refused) ⊎ (status ≡ Memory)
  pub faults : TellsFaults sides status

-- Whether a command reads the source: `run`, `par`, `check`, `set` and `image` do.
abbrev pub reads_source : Option Command → Bool
reads_source (Some commands.Run) = true
reads_source (Some commands.Par) = true
reads_source (Some commands.Check) = true
reads_source (Some commands.Set) = true
reads_source (Some (commands.Image layout)) = true
reads_source other = false
