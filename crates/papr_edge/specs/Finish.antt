-- How a text or a refusal is written, with the status where the sink fails.
use Rattle.std.specs.Prelude.{◌≡◌, ◌⊎◌, ℕ, List, [], ◌++◌, Option}
use Rattle.trace_io.specs.Outside.{Put, Rose}
use Rattle.papr_edge.specs.declared.reading.NoInput.{NoInput}
use Rattle.papr_edge.specs.declared.reading.NoInput.TheVariants as missing
use Rattle.papr_edge.specs.declared.status.Status.{Status}
use Rattle.papr_edge.specs.declared.status.Status.TheVariants.{Refused, ReadFault, WriteFault, Memory}
use Rattle.papr_edge.specs.Inputs.{refusal_text}

-- The whole text was written, or the sink failed after a prefix of it.
abbrev pub Finishes : Status → List ℕ → Option (List ℕ) → Option (List ℕ) → ℕ → ℕ → Status → Type 0
Finishes status text taken taken_after faults faults_after result =
    ((result ≡ status) × Put taken text taken_after)
    ⊎ ((result ≡ WriteFault)
    × Rose faults faults_after
    × ((prefix : List ℕ)
    × (rest : List ℕ)
    × (text ≡ prefix ++ rest)
    × Put taken prefix taken_after))

-- Nothing was written, and this status is the answer.
abbrev pub WritesNothing : Status → Option (List ℕ) → Option (List ℕ) → Status → Type 0
WritesNothing status taken taken_after result = (result ≡ status) × Put taken [] taken_after

-- A refused input is answered by its line, unless memory ends; a fault and want of memory are
-- answered by nothing.
abbrev pub EndsRefused :
    NoInput → Option (List ℕ) → Option (List ℕ) → ℕ → ℕ → Status → Type 0
EndsRefused (missing.Refused line reason) taken taken_after faults faults_after result =
    Finishes Refused (refusal_text line reason) taken taken_after faults faults_after result
    ⊎ WritesNothing Memory taken taken_after result
EndsRefused missing.Fault taken taken_after faults faults_after result =
    WritesNothing ReadFault taken taken_after result
EndsRefused missing.Memory taken taken_after faults faults_after result =
    WritesNothing Memory taken taken_after result
