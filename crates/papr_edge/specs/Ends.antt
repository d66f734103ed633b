-- How a command that reads ends: what was read and written, by the status.
use Rattle.std.specs.Prelude.{◌≡◌, ◌⊎◌, ℕ, List, [], ◌++◌, Option, Some, Result, Ok, Err}
use Rattle.trace_io.specs.Outside.{Took, Put}
use Rattle.papr_edge.specs.Inputs.{refusal_text}
use Rattle.papr_edge.specs.Reading.{Reads}
use Rattle.papr_edge.specs.declared.command.Command.{Command}
use Rattle.papr_edge.specs.declared.command.Command.TheVariants as commands
use Rattle.papr_edge.specs.declared.reason.Reason.{Reason}
use Rattle.papr_edge.specs.declared.status.Status.{Status}
use Rattle.papr_edge.specs.declared.status.Status.TheVariants.{Done, Usage, Refused, ReadFault, WriteFault, Memory, CheckNo}

-- ---- what a call leaves
-- The bytes left in the source and those taken by the sink, before and after, where they are known.
pub record Run : Type 0 where
  pub left : Option (List ℕ)
  pub left_after : Option (List ℕ)
  pub taken : Option (List ℕ)
  pub taken_after : Option (List ℕ)

-- No byte was read.
abbrev pub ReadsNothing : Run → Type 0
ReadsNothing run = Took run.left [] run.left_after

-- The sink took just this text.
abbrev pub Writes : Run → List ℕ → Type 0
Writes run text = Put run.taken text run.taken_after

-- A prefix of this text was written.
abbrev pub WritesPrefix : Run → List ℕ → Type 0
WritesPrefix run text =
    (front : List ℕ) × (rest : List ℕ) × (text ≡ front ++ rest) × Writes run front

-- ---- texts of an input
-- A text that may be written of an input comes with Done.
abbrev pub WithDone : {A : Type 0} → (A → List ℕ → Type 0) → A → Status → List ℕ → Type 0
WithDone says x Done text = says x text
WithDone says x other text = ⊥

-- ---- commands that read
-- The bytes are an input, and a text that may be written of it was.
pub record Answers
    {A : Type 0}
    (reads : List ℕ → Result A (ℕ × Reason))
    (says : A → List ℕ → Type 0)
    (run : Run)
    : Type 0
  where
    pub bytes : List ℕ
    pub input : A
    pub text : List ℕ
    pub read : Reads run.left bytes run.left_after
    pub accepted : reads bytes ≡ Ok input
    pub said : says input text
    pub written : Writes run text

-- The bytes are refused, and the line and the reason were written.
pub record Refuses {A : Type 0} (reads : List ℕ → Result A (ℕ × Reason)) (run : Run) : Type 0 where
  pub bytes : List ℕ
  pub refusal : ℕ × Reason
  pub read : Reads run.left bytes run.left_after
  pub refused : reads bytes ≡ Err refusal
  pub written : Writes run (refusal_text refusal.0 refusal.1)

-- A text that may be written of an input with some status, or the line that refuses it.
abbrev pub IsOutput :
    {A : Type 0} → (A → Status → List ℕ → Type 0) → Result A (ℕ × Reason) → List ℕ → Type 0
IsOutput says (Ok x) text = (status : Status) × says x status text
IsOutput says (Err refusal) text = text ≡ refusal_text refusal.0 refusal.1

-- The sink failed after a prefix of such a text.
pub record Stops
    {A : Type 0}
    (reads : List ℕ → Result A (ℕ × Reason))
    (says : A → Status → List ℕ → Type 0)
    (run : Run)
    : Type 0
  where
    pub bytes : List ℕ
    pub text : List ℕ
    pub read : Reads run.left bytes run.left_after
    pub output : IsOutput says (reads bytes) text
    pub written : WritesPrefix run text

-- What a command that reads left, by its status. Want of memory and a fault of the source leave
-- nothing written.
abbrev pub EndsReading :
    {A : Type 0}
    → (List ℕ → Result A (ℕ × Reason))
    → (A → Status → List ℕ → Type 0)
    → Run
    → Status
    → Type 0
EndsReading reads says run Done = Answers reads (λ x. says x Done) run
EndsReading reads says run CheckNo = Answers reads (λ x. says x CheckNo) run
EndsReading reads says run Refused = Refuses reads run
EndsReading reads says run ReadFault = Writes run []
EndsReading reads says run WriteFault = Stops reads says run
EndsReading reads says run Memory = Writes run []
EndsReading reads says run Usage = ⊥

-- What a command left that may also refuse an input that was read: with Refused a text that may be
-- written with it was written. With each other status it left what a command that reads does.
abbrev pub EndsAnswered :
    {A : Type 0}
    → (List ℕ → Result A (ℕ × Reason))
    → (A → Status → List ℕ → Type 0)
    → Run
    → Status
    → Type 0
EndsAnswered reads says run Refused = Refuses reads run ⊎ Answers reads (λ x. says x Refused) run
EndsAnswered reads says run status = EndsReading reads says run status

-- The status of a command that was done: under `check` a text that isn't good has one of its own.
abbrev pub IsAnswered : Option Command → Status → Type 0
IsAnswered command Done = Unit {0}
IsAnswered (Some commands.Check) CheckNo = Unit {0}
IsAnswered command other = ⊥
