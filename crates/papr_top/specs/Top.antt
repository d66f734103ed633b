-- What a call of the program leaves, by its words and its exit status.
use Rattle.std.specs.Prelude.{ℕ, List, [], Option, Some, None, IsSomeAnd, IsOk, IsErr, codes}
use Rattle.trace_read.specs.Trace.{AcceptedTrace}
use Rattle.trace_gen.specs.Generated.{generated_trace}
use Rattle.papr_edge.specs.Inputs.{trace_input, judged_input}
use Rattle.papr_edge.specs.Ends.{Run, ReadsNothing, Writes, WritesPrefix, WithDone, EndsReading}
use Rattle.papr_edge.specs.declared.status.Status.{Status}
use Rattle.papr_edge.specs.declared.status.Status.TheVariants.{Done, Usage, WriteFault, Memory}
use Rattle.papr_edge.specs.declared.command.Command.{Command}
use Rattle.papr_edge.specs.declared.command.Command.TheVariants as commands
use Rattle.papr_top.specs.Texts.{IsSerialAssured, IsSerialText, IsParallelText, drill_text}
use Rattle.papr_top.specs.Judging.{IsVerdictText}
use Rattle.papr_top.specs.Images.{EndsImage, HasImage, HasNoImage}
use Rattle.papr_top.specs.Sets.{set_input, IsSetText}

-- ---- words that read nothing
-- The line that answers wrong words.
abbrev pub usage_text : List ℕ
usage_text = codes "papr: usage\n"

-- What `drill` left of this trace, for which no byte is read: the summary was written whole, or a
-- prefix of it, or nothing for want of memory.
abbrev pub EndsDrill : AcceptedTrace → Run → Status → Type 0
EndsDrill t run Done =
    ReadsNothing run × IsSerialAssured t × Writes run (drill_text t)
EndsDrill t run WriteFault = ReadsNothing run × WritesPrefix run (drill_text t)
EndsDrill t run Memory = ReadsNothing run × Writes run []
EndsDrill t run other = ⊥

-- What words that are no command left: the usage line was written, or a prefix of it, and no byte
-- was read.
abbrev pub EndsUsage : Run → Status → Type 0
EndsUsage run Usage = ReadsNothing run × Writes run usage_text
EndsUsage run WriteFault = ReadsNothing run × WritesPrefix run usage_text
EndsUsage run other = ⊥

-- ---- by the words and the status
-- What a call with these words left, where it answered this status.
abbrev pub IsOutcome : Option Command → Run → Status → Type 0
IsOutcome None run status = EndsUsage run status
IsOutcome (Some commands.Run) run status =
    EndsReading trace_input (WithDone IsSerialText) run status
IsOutcome (Some commands.Par) run status =
    EndsReading trace_input (WithDone IsParallelText) run status
IsOutcome (Some commands.Check) run status =
    EndsReading judged_input IsVerdictText run status
IsOutcome (Some commands.Set) run status =
    EndsReading set_input (WithDone IsSetText) run status
IsOutcome (Some (commands.Image layout)) run status = EndsImage layout run status
IsOutcome (Some (commands.Drill seed lines)) run status =
    EndsDrill (generated_trace seed lines) run status

-- ---- what a command needs
-- The words are a command, and the bytes left are known and an input that it reads; under `image`
-- the layout can hold each entry. A drill reads none.
abbrev pub HasInput : Option Command → Option (List ℕ) → Type 0
HasInput None left = ⊥
HasInput (Some (commands.Drill seed lines)) left = Unit {0}
HasInput (Some (commands.Image layout)) left = IsSomeAnd left (HasImage layout)
HasInput (Some commands.Check) left = IsSomeAnd left (λ bytes. IsOk (judged_input bytes))
HasInput (Some commands.Set) left = IsSomeAnd left (λ bytes. IsOk (set_input bytes))
HasInput (Some reading) left = IsSomeAnd left (λ bytes. IsOk (trace_input bytes))

-- The words are a command that reads, and the bytes left are known and no input of it, or under
-- `image` there is an entry that the layout can't hold.
abbrev pub HasRefusedInput : Option Command → Option (List ℕ) → Type 0
HasRefusedInput None left = ⊥
HasRefusedInput (Some (commands.Drill seed lines)) left = ⊥
HasRefusedInput (Some (commands.Image layout)) left = IsSomeAnd left (HasNoImage layout)
HasRefusedInput (Some commands.Check) left = IsSomeAnd left (λ bytes. IsErr (judged_input bytes))
HasRefusedInput (Some commands.Set) left = IsSomeAnd left (λ bytes. IsErr (set_input bytes))
HasRefusedInput (Some reading) left = IsSomeAnd left (λ bytes. IsErr (trace_input bytes))
