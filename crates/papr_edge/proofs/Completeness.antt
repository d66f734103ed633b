-- A command that has its input is answered, and one whose input can't be read so refuses it, where
-- neither source nor sink fails, unless memory ends.
use Rattle.std.proofs.Common.{◌≡◌, ◌≢◌, ◌⊎◌, ℕ, ◌<◌, ◌≤◌, List, [], ◌++◌, length, true, false, Option, Some, None, Result, IsSomeAnd, IsOk, IsErr, sym, refl, subst, ap, ◌∙◌, inl, inr, arith, length-append}
use Rattle.std.proofs.lemmas.Bool.{cases_lt}
use Rattle.std.proofs.lemmas.List.{append-nil}
use Rattle.papr_edge.specs.declared.reason.Reason.{Reason}
use Rattle.papr_edge.specs.declared.status.Status.{Status}
use Rattle.papr_edge.specs.declared.status.Status.TheVariants.{Done, Usage, Refused, ReadFault, WriteFault, Memory, CheckNo}
use Rattle.papr_edge.specs.Inputs.{JudgedInput, judged_input}
use Rattle.papr_edge.specs.Reading.{Reads, RefusesLong}
use Rattle.papr_edge.specs.Ends.{Run, EndsReading, WithDone, IsAnswered}
use Rattle.papr_edge.specs.declared.command.Command.{Command}
use Rattle.papr_edge.specs.declared.command.Command.TheVariants.{Check}
use Rattle.papr_edge.specs.InputLaws.{long_judged}
use Rattle.trace_read.specs.Grammar.{most_bytes}

-- What is read is the whole of what was left, or both are past the limit: they read alike.
read_whole :
    {A : Type 0} (reads : List ℕ → Result A (ℕ × Reason)) (left bytes rest : List ℕ)
    → RefusesLong reads
    → left ≡ bytes ++ rest
    → (length bytes ≤ most_bytes → rest ≡ [])
    → reads bytes ≡ reads left
read_whole reads left bytes rest refuses took end =
    elim (cases_lt most_bytes (length bytes)) [
      | inl past ↦
          (let longer : most_bytes < length left = omega
          (arith, ap length took, length-append bytes rest) in
          refuses bytes past ∙ sym (refuses left longer))
      | inr within ↦ ap reads (sym (took ∙ ap (λ z. bytes ++ z) (end within) ∙ append-nil bytes))
    ]

-- What was read reads as the input that was left in the source.
pub told_input :
    {A : Type 0} (reads : List ℕ → Result A (ℕ × Reason)) (P : Result A (ℕ × Reason) → Type 0)
    (left left_after : Option (List ℕ)) (bytes : List ℕ)
    → RefusesLong reads
    → IsSomeAnd left (λ input. P (reads input))
    → Reads left bytes left_after
    → P (reads bytes)
told_input reads P None left_after bytes refuses holds read = absurd holds
told_input reads P (Some left) None bytes refuses holds read = absurd read.took
told_input reads P (Some left) (Some rest) bytes refuses holds read =
    subst P (sym (read_whole reads left bytes rest refuses read.took read.end)) holds

-- A command that reads an input that it takes.
reading_done :
    {A : Type 0} (reads : List ℕ → Result A (ℕ × Reason)) (says : A → Status → List ℕ → Type 0)
    (run : Run) (result : Status)
    → RefusesLong reads
    → EndsReading reads says run result
    → IsSomeAnd run.left (λ input. IsOk (reads input))
    → result ≢ ReadFault
    → result ≢ WriteFault
    → (result ≡ Done) ⊎ ((result ≡ CheckNo) ⊎ (result ≡ Memory))
reading_done reads says run Done refuses ends accepted no_read_fault no_write_fault = inl refl
reading_done reads says run CheckNo refuses ends accepted no_read_fault no_write_fault =
    inr (inl refl)
reading_done reads says run Memory refuses ends accepted no_read_fault no_write_fault =
    inr (inr refl)
reading_done reads says run Refused refuses ends accepted no_read_fault no_write_fault =
    (let wrong : false ≡ true = subst IsOk ends.refused
    (told_input reads IsOk run.left run.left_after ends.bytes refuses accepted ends.read) in
    cc)
reading_done reads says run ReadFault refuses ends accepted no_read_fault no_write_fault =
    absurd (no_read_fault refl)
reading_done reads says run WriteFault refuses ends accepted no_read_fault no_write_fault =
    absurd (no_write_fault refl)
reading_done reads says run Usage refuses ends accepted no_read_fault no_write_fault = absurd ends

-- A command that writes a text of its input has one status for it.
pub text_done :
    {A : Type 0} (reads : List ℕ → Result A (ℕ × Reason)) (command : Option Command)
    (says : A → List ℕ → Type 0) (run : Run) (result : Status)
    → RefusesLong reads
    → EndsReading reads (WithDone says) run result
    → IsSomeAnd run.left (λ input. IsOk (reads input))
    → result ≢ ReadFault
    → result ≢ WriteFault
    → IsAnswered command result ⊎ (result ≡ Memory)
text_done reads command says run result refuses ends accepted no_read_fault no_write_fault =
    at result ends
    (reading_done reads (WithDone says) run result refuses ends accepted no_read_fault
    no_write_fault) where
      at :
          (status : Status)
          → EndsReading reads (WithDone says) run status
          → (status ≡ Done) ⊎ ((status ≡ CheckNo) ⊎ (status ≡ Memory))
          → IsAnswered command status ⊎ (status ≡ Memory)
      at status ended (inl done) = inl (subst (IsAnswered command) (sym done) tt)
      at status ended (inr (inl bad)) =
          absurd ((subst (EndsReading reads (WithDone says) run) bad ended).said)
      at status ended (inr (inr memory)) = inr memory

-- A judgement has two.
pub judged_done :
    (says : JudgedInput → Status → List ℕ → Type 0) (run : Run) (result : Status)
    → EndsReading judged_input says run result
    → IsSomeAnd run.left (λ input. IsOk (judged_input input))
    → result ≢ ReadFault
    → result ≢ WriteFault
    → IsAnswered (Some Check) result ⊎ (result ≡ Memory)
judged_done says run result ends accepted no_read_fault no_write_fault =
    at
    (reading_done judged_input says run result long_judged ends accepted no_read_fault
    no_write_fault) where
      at :
          (result ≡ Done) ⊎ ((result ≡ CheckNo) ⊎ (result ≡ Memory))
          → IsAnswered (Some Check) result ⊎ (result ≡ Memory)
      at (inl done) = inl (subst (IsAnswered (Some Check)) (sym done) tt)
      at (inr (inl bad)) = inl (subst (IsAnswered (Some Check)) (sym bad) tt)
      at (inr (inr memory)) = inr memory

-- One whose input is refused.
pub reading_refused :
    {A : Type 0} (reads : List ℕ → Result A (ℕ × Reason)) (says : A → Status → List ℕ → Type 0)
    (run : Run) (result : Status)
    → RefusesLong reads
    → EndsReading reads says run result
    → IsSomeAnd run.left (λ input. IsErr (reads input))
    → result ≢ ReadFault
    → result ≢ WriteFault
    → (result ≡ Refused) ⊎ (result ≡ Memory)
reading_refused reads says run Refused refuses ends refused no_read_fault no_write_fault = inl refl
reading_refused reads says run Memory refuses ends refused no_read_fault no_write_fault = inr refl
reading_refused reads says run Done refuses ends refused no_read_fault no_write_fault =
    (let wrong : false ≡ true = subst IsErr ends.accepted
    (told_input reads IsErr run.left run.left_after ends.bytes refuses refused ends.read) in
    cc)
reading_refused reads says run CheckNo refuses ends refused no_read_fault no_write_fault =
    (let wrong : false ≡ true = subst IsErr ends.accepted
    (told_input reads IsErr run.left run.left_after ends.bytes refuses refused ends.read) in
    cc)
reading_refused reads says run ReadFault refuses ends refused no_read_fault no_write_fault =
    absurd (no_read_fault refl)
reading_refused reads says run WriteFault refuses ends refused no_read_fault no_write_fault =
    absurd (no_write_fault refl)
reading_refused reads says run Usage refuses ends refused no_read_fault no_write_fault = absurd ends
