-- The text that a command makes of its input, and the exit status.
use Rattle.std.specs.Prelude.{◌≡◌, List, ℕ, Result, Ok, string_bytes}
use Rattle.std.specs.declared.alloc.AllocError.{AllocError}
use Rattle.papr_edge.specs.declared.answer.Answer.{Answer}
use Rattle.papr_edge.specs.declared.answer.Answer.TheVariants as answers
use Rattle.papr_edge.specs.declared.status.Status.{Status}
use Rattle.papr_edge.specs.declared.status.Status.TheVariants.{Done, Refused, CheckNo}

-- The text to be written.
abbrev pub answer_text : Answer → List ℕ
answer_text (answers.Done text) = string_bytes text
answer_text (answers.Image text) = text
answer_text (answers.CheckNo text) = string_bytes text
answer_text (answers.Refused text) = string_bytes text

-- The status of a call that writes it whole.
abbrev pub answer_status : Answer → Status
answer_status (answers.Done text) = Done
answer_status (answers.Image text) = Done
answer_status (answers.CheckNo text) = CheckNo
answer_status (answers.Refused text) = Refused

-- The answer's text may be written of the input, with its status.
abbrev pub IsAnswer : {A : Type 0} → (A → Status → List ℕ → Type 0) → A → Answer → Type 0
IsAnswer says x answer = says x (answer_status answer) (answer_text answer)

-- The text and the status of an answer that may be given of the input.
pub record IsMade
    {A : Type 0}
    (gives : A → Result Answer AllocError → Type 0)
    (x : A)
    (status : Status)
    (text : List ℕ)
    : Type 0
  where
    pub answer : Answer
    pub given : gives x (Ok answer)
    pub comes : status ≡ answer_status answer
    pub is : text ≡ answer_text answer
