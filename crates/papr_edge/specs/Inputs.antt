-- What the program reads: a trace, or for a judgement a trace and the text of its replies.
use Rattle.std.specs.Prelude.{ℕ, ◌+◌, Bool, List, [], ◌∷◌, ◌++◌, length, Option, Some, None, Result, Ok, Err, if◌then◌else◌, nat_lt, codes}
use Rattle.std.specs.List.{slice_split, join_with_byte}
use Rattle.std.specs.Option.{option_map}
use Rattle.std.specs.Str.{bytes_eq}
use Rattle.std.specs.Fmt.{decimal}
use Rattle.trace_read.specs.declared.why.Why.{Why}
use Rattle.trace_read.specs.declared.why.Why.TheVariants as whys
use Rattle.trace_read.specs.Whys.{why_word}
use Rattle.trace_read.specs.TextLines.{is_lf, raw_lines, without_cr}
use Rattle.trace_read.specs.Trace.{AcceptedTrace}
use Rattle.trace_read.specs.Grammar.{trace_of, most_bytes}
use Rattle.papr_edge.specs.declared.reason.Reason.{Reason}
use Rattle.papr_edge.specs.declared.reason.Reason.TheVariants as reasons

-- ---- why an input is refused
-- The reason's word.
abbrev pub reason_word : Reason → List ℕ
reason_word (reasons.Trace why) = why_word why
reason_word reasons.NoReplies = codes "replies"

-- The line that says which line of the input is refused, and why.
abbrev pub refusal_text : ℕ → Reason → List ℕ
refusal_text line reason =
    codes "papr: line " ++ decimal line ++ codes ": " ++ reason_word reason ++ codes "\n"

-- A refused line, as one of an input.
abbrev pub with_reason : {A : Type 0} → Result A (ℕ × Why) → Result A (ℕ × Reason)
with_reason (Ok x) = Ok x
with_reason (Err e) = Err (e.0, reasons.Trace e.1)

-- The trace that the whole input is, or its first refused line and the reason.
abbrev pub trace_input : List ℕ → Result AcceptedTrace (ℕ × Reason)
trace_input bytes = with_reason (trace_of bytes)

-- ---- an input to be judged
-- A trace, and the text that is to be judged as its replies.
pub record JudgedInput : Type 0 where
  pub trace : AcceptedTrace
  pub text : List ℕ

-- The line between the two; a CR at its end is dropped.
abbrev pub is_replies_line : List ℕ → Bool
is_replies_line line = bytes_eq (without_cr line) (codes "replies")

-- The lines before the first such line, each with its LF, and what follows it; none where there is
-- no such line.
abbrev pub cut_lines : List (List ℕ) → Option (List ℕ × List ℕ)
cut_lines [] = None
cut_lines (line ∷ rest) =
    if is_replies_line line
    then Some ([], join_with_byte 10 rest)
    else option_map (λ (parts : List ℕ × List ℕ). (line ++ 10 ∷ parts.0, parts.1)) (cut_lines rest)

-- The bytes of the trace, and those of the text.
unfoldable pub cut_of : List ℕ → Option (List ℕ × List ℕ)
cut_of bytes = cut_lines (slice_split is_lf bytes)

-- The trace with the text after it, where it is one.
abbrev pub with_text :
    List ℕ → Result AcceptedTrace (ℕ × Reason) → Result JudgedInput (ℕ × Reason)
with_text text (Ok t) = Ok (record { trace = t; text = text })
with_text text (Err e) = Err e

-- The parts, read: without a line `replies` the input is refused one past its last line.
abbrev pub judged_parts : ℕ → Option (List ℕ × List ℕ) → Result JudgedInput (ℕ × Reason)
judged_parts lines None = Err (lines + 1, reasons.NoReplies)
judged_parts lines (Some parts) = with_text parts.1 (trace_input parts.0)

-- The trace and the text that an input is, or its first refused line and the reason. More bytes
-- than may be are refused before all else.
unfoldable pub judged_input : List ℕ → Result JudgedInput (ℕ × Reason)
judged_input bytes =
    if nat_lt most_bytes (length bytes)
    then Err (0, reasons.Trace whys.Long)
    else judged_parts (length (raw_lines bytes)) (cut_of bytes)
