-- What reading a source gives: an input, a refusal with its line, or a fault.
use Rattle.std.specs.Prelude.{◌≡◌, ℕ, ◌<◌, ◌≤◌, List, length, Option, Result, Ok, Err}
use Rattle.trace_io.specs.Outside.{Took, AtEnd}
use Rattle.trace_read.specs.declared.why.Why.TheVariants as whys
use Rattle.trace_read.specs.declared.parser.TraceError.{TraceError}
use Rattle.trace_read.specs.declared.parser.TraceError.TheVariants as errors
use Rattle.trace_read.specs.Grammar.{most_bytes}
use Rattle.papr_edge.specs.declared.reading.NoInput.{NoInput}
use Rattle.papr_edge.specs.declared.reading.NoInput.TheVariants as missing
use Rattle.papr_edge.specs.declared.reason.Reason.{Reason}
use Rattle.papr_edge.specs.declared.reason.Reason.TheVariants as reasons

-- These bytes were read: to the end of the input, or past the limit.
pub record Reads
    (left : Option (List ℕ))
    (bytes : List ℕ)
    (left_after : Option (List ℕ))
    : Type 0
  where
    pub took : Took left bytes left_after
    pub end : length bytes ≤ most_bytes → AtEnd left_after

-- What was read is an input, or is refused; of a fault and of want of memory nothing is said.
abbrev pub IsInput :
    {A : Type 0}
    → (List ℕ → Result A (ℕ × Reason))
    → Result A NoInput
    → Option (List ℕ)
    → Option (List ℕ)
    → Type 0
IsInput reads (Ok x) left left_after =
    (bytes : List ℕ) × Reads left bytes left_after × (reads bytes ≡ Ok x)
IsInput reads (Err (missing.Refused line reason)) left left_after =
    (bytes : List ℕ) × Reads left bytes left_after × (reads bytes ≡ Err (line, reason))
IsInput reads (Err other) left left_after = Unit {0}

-- Only an input past the limit is refused before it is looked at.
abbrev pub WasLong : NoInput → Option (List ℕ) → Option (List ℕ) → Type 0
WasLong (missing.Refused line reason) left left_after =
    (line ≡ 0)
    × (reason ≡ reasons.Trace whys.Long)
    × ((bytes : List ℕ) × (most_bytes < length bytes) × Took left bytes left_after)
WasLong other left left_after = Unit {0}

-- What a refusal of a trace or of a set is for an input.
abbrev pub no_input_of : TraceError → NoInput
no_input_of (errors.Line line why) = missing.Refused line (reasons.Trace why)
no_input_of errors.Memory = missing.Memory

-- What was parsed, or the refusal, as given; of want of memory nothing is said.
abbrev pub IsParsedInput : {A : Type 0} → Result A NoInput → Result A (ℕ × Reason) → Type 0
IsParsedInput (Ok x) said = said ≡ Ok x
IsParsedInput (Err (missing.Refused line reason)) said = said ≡ Err (line, reason)
IsParsedInput (Err other) said = Unit {0}

-- More bytes than may be are refused as line 0, whatever they are.
abbrev pub RefusesLong : {A : Type 0} → (List ℕ → Result A (ℕ × Reason)) → Type 0
RefusesLong reads =
    (bytes : List ℕ)
    → most_bytes < length bytes
    → reads bytes ≡ Err (0, reasons.Trace whys.Long)
