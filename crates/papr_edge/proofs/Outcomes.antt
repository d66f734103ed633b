-- How a command that reads ends, from what was read and how the text was written.
use Rattle.std.proofs.Common.{ℕ, List, Result, Ok, Err, Option, sym, refl, subst, inl, inr, ◌∙◌, arith, string_bytes}
use Rattle.std.specs.declared.alloc.AllocError.{AllocError}
use Rattle.papr_edge.specs.Inputs.{refusal_text}
use Rattle.papr_edge.specs.declared.answer.Answer.{Answer}
use Rattle.papr_edge.specs.declared.answer.Answer.TheVariants as answers
use Rattle.papr_edge.specs.declared.reading.NoInput.{NoInput}
use Rattle.papr_edge.specs.declared.reading.NoInput.TheVariants as missing
use Rattle.papr_edge.specs.declared.reason.Reason.{Reason}
use Rattle.papr_edge.specs.declared.status.Status.{Status}
use Rattle.papr_edge.specs.declared.status.Status.TheVariants.{Done, Usage, Refused, ReadFault, WriteFault, Memory, CheckNo}
use Rattle.papr_edge.specs.Answer.{answer_text, answer_status, IsAnswer, IsMade}
use Rattle.papr_edge.specs.Reading.{IsInput, WasLong, RefusesLong}
use Rattle.papr_edge.specs.Ends.{Run, Answers, IsOutput, EndsReading, EndsAnswered}
use Rattle.papr_edge.specs.Finish.{Finishes, EndsRefused}

-- What was not read is no input for a command that refuses long ones.
pub refused_long :
    {A : Type 0} (reads : List ℕ → Result A (ℕ × Reason)) (error : NoInput)
    (left left_after : Option (List ℕ))
    → RefusesLong reads
    → WasLong error left left_after
    → IsInput reads (Err error) left left_after
refused_long reads (missing.Refused line reason) left left_after refuses long =
    let read = long.2 in (
      read.0,
      record { took = read.2; end = λ short. absurd (omega (arith, read.1)) },
      refuses read.0 read.1 ∙ (λ i. Err (sym long.0 i, sym long.1 i)),
    )
refused_long reads missing.Fault left left_after refuses long = tt
refused_long reads missing.Memory left left_after refuses long = tt

-- A text that may be written of the input, with this status, was being written.
pub answered :
    {A : Type 0} (reads : List ℕ → Result A (ℕ × Reason)) (says : A → Status → List ℕ → Type 0)
    (run : Run) (x : A) (answer : Answer) (faults faults_after : ℕ) (result : Status)
    → IsInput reads (Ok x) run.left run.left_after
    → IsAnswer says x answer
    → Finishes (answer_status answer) (answer_text answer) run.taken run.taken_after faults
    faults_after result
    → EndsAnswered reads says run result
answered reads says run x (answers.Done text) faults faults_after result input said (inl done) =
    subst (EndsAnswered reads says run) (sym done.0)
    (record {
      bytes = input.0;
      input = x;
      text = string_bytes text;
      read = input.1;
      accepted = input.2;
      said = said;
      written = done.1;
    })
answered reads says run x (answers.Image text) faults faults_after result input said (inl done) =
    subst (EndsAnswered reads says run) (sym done.0)
    (record {
      bytes = input.0;
      input = x;
      text = text;
      read = input.1;
      accepted = input.2;
      said = said;
      written = done.1;
    })
answered reads says run x (answers.CheckNo text) faults faults_after result input said (inl done) =
    subst (EndsAnswered reads says run) (sym done.0)
    (record {
      bytes = input.0;
      input = x;
      text = string_bytes text;
      read = input.1;
      accepted = input.2;
      said = said;
      written = done.1;
    })
answered reads says run x (answers.Refused text) faults faults_after result input said (inl done) =
    subst (EndsAnswered reads says run) (sym done.0)
    (inr
    (record {
      bytes = input.0;
      input = x;
      text = string_bytes text;
      read = input.1;
      accepted = input.2;
      said = said;
      written = done.1;
    }))
answered reads says run x answer faults faults_after result input said (inr stopped) =
    subst (EndsAnswered reads says run) (sym stopped.0)
    (record {
      bytes = input.0;
      text = answer_text answer;
      read = input.1;
      output =
          subst (λ parsed. IsOutput says parsed (answer_text answer)) (sym input.2)
          (answer_status answer, said);
      written = stopped.2;
    })

-- A run that had no input and ends refused ends as a command that answers may.
pub refused :
    {A : Type 0} (reads : List ℕ → Result A (ℕ × Reason)) (says : A → Status → List ℕ → Type 0)
    (run : Run) (error : NoInput) (faults faults_after : ℕ) (result : Status)
    → IsInput reads (Err error) run.left run.left_after
    → EndsRefused error run.taken run.taken_after faults faults_after result
    → EndsAnswered reads says run result
refused reads says run (missing.Refused line reason) faults faults_after result input
    (inl (inl done)) =
    subst (EndsAnswered reads says run) (sym done.0)
    (inl
    (record {
      bytes = input.0;
      refusal = (line, reason);
      read = input.1;
      refused = input.2;
      written = done.1;
    }))
refused reads says run (missing.Refused line reason) faults faults_after result input
    (inl (inr stopped)) =
    subst (EndsAnswered reads says run) (sym stopped.0)
    (record {
      bytes = input.0;
      text = refusal_text line reason;
      read = input.1;
      output =
          subst (λ parsed. IsOutput says parsed (refusal_text line reason)) (sym input.2)
          refl;
      written = stopped.2;
    })
refused reads says run (missing.Refused line reason) faults faults_after result input (inr ended) =
    subst (EndsAnswered reads says run) (sym ended.0) ended.1
refused reads says run missing.Fault faults faults_after result input ended =
    subst (EndsAnswered reads says run) (sym ended.0) ended.1
refused reads says run missing.Memory faults faults_after result input ended =
    subst (EndsAnswered reads says run) (sym ended.0) ended.1

-- ---- what the texts of the answers say
-- What is made is what the answers say.
made_said :
    {A : Type 0} (gives : A → Result Answer AllocError → Type 0)
    (says : A → Status → List ℕ → Type 0) (x : A) (status : Status) (text : List ℕ)
    → ((x : A) (answer : Answer) → gives x (Ok answer) → IsAnswer says x answer)
    → IsMade gives x status text
    → says x status text
made_said gives says x status text to made =
    subst (λ s. says x s text) (sym made.comes)
    (subst (says x (answer_status made.answer)) (sym made.is) (to x made.answer made.given))

answers_said :
    {A : Type 0} (reads : List ℕ → Result A (ℕ × Reason))
    (gives : A → Result Answer AllocError → Type 0) (says : A → Status → List ℕ → Type 0)
    (run : Run) (status : Status)
    → ((x : A) (answer : Answer) → gives x (Ok answer) → IsAnswer says x answer)
    → Answers reads (λ x. IsMade gives x status) run
    → Answers reads (λ x. says x status) run
answers_said reads gives says run status to ends =
    record {
      bytes = ends.bytes;
      input = ends.input;
      text = ends.text;
      read = ends.read;
      accepted = ends.accepted;
      said = made_said gives says ends.input status ends.text to ends.said;
      written = ends.written;
    }

-- What may be written with some status, of an input that is read so.
output_said :
    {A : Type 0} (gives : A → Result Answer AllocError → Type 0)
    (says : A → Status → List ℕ → Type 0) (text : List ℕ)
    → ((x : A) (answer : Answer) → gives x (Ok answer) → IsAnswer says x answer)
    → (read : Result A (ℕ × Reason))
    → IsOutput (IsMade gives) read text
    → IsOutput says read text
output_said gives says text to (Err refusal) output = output
output_said gives says text to (Ok x) output =
    (output.0, made_said gives says x output.0 text to output.1)

-- A command that writes what its answers give ends as one that writes what they say.
pub ends_said :
    {A : Type 0} (reads : List ℕ → Result A (ℕ × Reason))
    (gives : A → Result Answer AllocError → Type 0) (says : A → Status → List ℕ → Type 0)
    (run : Run) (result : Status)
    → ((x : A) (answer : Answer) → gives x (Ok answer) → IsAnswer says x answer)
    → EndsAnswered reads (IsMade gives) run result
    → EndsAnswered reads says run result
ends_said reads gives says run Done to ends = answers_said reads gives says run Done to ends
ends_said reads gives says run CheckNo to ends = answers_said reads gives says run CheckNo to ends
ends_said reads gives says run Refused to (inl ends) = inl ends
ends_said reads gives says run Refused to (inr ends) =
    inr (answers_said reads gives says run Refused to ends)
ends_said reads gives says run ReadFault to ends = ends
ends_said reads gives says run WriteFault to ends =
    record {
      bytes = ends.bytes;
      text = ends.text;
      read = ends.read;
      output = output_said gives says ends.text to (reads ends.bytes) ends.output;
      written = ends.written;
    }
ends_said reads gives says run Memory to ends = ends
ends_said reads gives says run Usage to ends = absurd ends

-- Where no text comes with Refused, that status is for inputs that are none.
pub ends_reading :
    {A : Type 0} (reads : List ℕ → Result A (ℕ × Reason)) (says : A → Status → List ℕ → Type 0)
    (run : Run) (result : Status)
    → ((x : A) (text : List ℕ) → says x Refused text → ⊥)
    → EndsAnswered reads says run result
    → EndsReading reads says run result
ends_reading reads says run Done none ends = ends
ends_reading reads says run CheckNo none ends = ends
ends_reading reads says run Refused none (inl ends) = ends
ends_reading reads says run Refused none (inr ends) = absurd (none ends.input ends.text ends.said)
ends_reading reads says run ReadFault none ends = ends
ends_reading reads says run WriteFault none ends = ends
ends_reading reads says run Memory none ends = ends
ends_reading reads says run Usage none ends = ends
