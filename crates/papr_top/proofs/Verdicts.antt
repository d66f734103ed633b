-- What an input to be judged is refused for, from its parts.
use Rattle.std.proofs.Common.{◌≤◌, ℕ, List, length, Some, Err, ap, ◌∙◌, ◌≡◌}
use Rattle.trace_read.specs.TextLines.{raw_lines}
use Rattle.papr_edge.specs.declared.reading.NoInput.{NoInput}
use Rattle.papr_edge.specs.declared.reading.NoInput.TheVariants as missing
use Rattle.papr_edge.specs.Inputs.{cut_of, trace_input, judged_input, judged_parts, with_text}
use Rattle.papr_edge.specs.Reading.{IsParsedInput}
use Rattle.papr_edge.proofs.JudgedInputs.{by_parts}
use Rattle.trace_read.specs.Grammar.{most_bytes}

-- With a trace that is refused.
pub trace_refused :
    (bytes trace text : List ℕ) (error : NoInput)
    → length bytes ≤ most_bytes
    → cut_of bytes ≡ Some (trace, text)
    → IsParsedInput (Err error) (trace_input trace)
    → IsParsedInput (Err error) (judged_input bytes)
trace_refused bytes trace text (missing.Refused line reason) within parts said =
    by_parts bytes within
    ∙ ap (judged_parts (length (raw_lines bytes))) parts
    ∙ ap (with_text text) said
trace_refused bytes trace text missing.Fault within parts said = tt
trace_refused bytes trace text missing.Memory within parts said = tt
