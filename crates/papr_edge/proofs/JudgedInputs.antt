-- What an input to be judged reads as, from its parts.
use Rattle.std.proofs.Common.{◌≡◌, ℕ, ◌+◌, ◌≤◌, List, length, Some, None, Ok, Err, refl, ap, ◌∙◌}
use Rattle.std.proofs.lemmas.Bool.{le-ltb}
use Rattle.trace_read.specs.Trace.{AcceptedTrace}
use Rattle.trace_read.specs.TextLines.{raw_lines}
use Rattle.papr_edge.specs.declared.reason.Reason.TheVariants.{NoReplies}
use Rattle.papr_edge.specs.Inputs.{cut_of, trace_input, judged_input, judged_parts, with_text}
use Rattle.trace_read.specs.Grammar.{most_bytes}

-- Within the limit the parts decide.
pub by_parts :
    (bytes : List ℕ)
    → length bytes ≤ most_bytes
    → judged_input bytes ≡ judged_parts (length (raw_lines bytes)) (cut_of bytes)
unfolding judged_input
by_parts bytes within = rw (le-ltb _ _ within) refl

-- Without a line `replies`.
pub without_replies :
    (bytes : List ℕ)
    → length bytes ≤ most_bytes
    → cut_of bytes ≡ None
    → judged_input bytes ≡ Err (length (raw_lines bytes) + 1, NoReplies)
without_replies bytes within none =
    by_parts bytes within ∙ ap (judged_parts (length (raw_lines bytes))) none

-- With a trace that is one.
pub with_trace :
    (bytes trace text : List ℕ) (t : AcceptedTrace)
    → length bytes ≤ most_bytes
    → cut_of bytes ≡ Some (trace, text)
    → trace_input trace ≡ Ok t
    → judged_input bytes ≡ Ok (record { trace = t; text = text })
with_trace bytes trace text t within parts said =
    by_parts bytes within
    ∙ ap (judged_parts (length (raw_lines bytes))) parts
    ∙ ap (with_text text) said
