-- How `image` ends, from what was read and written.
use Rattle.std.proofs.Common.{◌≡◌, ◌≢◌, ◌⊎◌, ℕ, false, true, Some, Result, IsSomeAnd, IsOkAnd, IsOk, IsErr, IfOk, refl, subst, inl, inr}
use Rattle.trace_read.specs.Trace.{AcceptedTrace}
use Rattle.table_image.specs.declared.layout.Layout.{Layout}
use Rattle.papr_edge.specs.declared.command.Command.TheVariants.{Image}
use Rattle.papr_edge.specs.declared.reason.Reason.{Reason}
use Rattle.papr_edge.specs.declared.status.Status.{Status}
use Rattle.papr_edge.specs.declared.status.Status.TheVariants.{Done, Usage, Refused, ReadFault, WriteFault, Memory, CheckNo}
use Rattle.papr_edge.specs.Inputs.{trace_input}
use Rattle.papr_edge.specs.Ends.{Run, EndsAnswered, IsAnswered}
use Rattle.papr_edge.specs.InputLaws.{long_trace}
use Rattle.papr_edge.proofs.Completeness.{told_input}
use Rattle.papr_top.specs.Images.{IsImage, EndsImage, HasImage, HasNoImage, image_output}

-- An `image` that ends as a command that reads ends as it should.
pub as_image :
    (layout : Layout) (run : Run) (result : Status)
    → EndsAnswered trace_input (IsImage layout) run result
    → EndsImage layout run result
as_image layout run Done ends = ends
as_image layout run Usage ends = ends
as_image layout run Refused ends = ends
as_image layout run ReadFault ends = ends
as_image layout run WriteFault ends = ends
as_image layout run Memory ends = ends
as_image layout run CheckNo ends = ends

-- ---- where the bytes left are known
-- The input is a trace, and the layout holds its image.
abbrev pub IsHeld : Layout → Result AcceptedTrace (ℕ × Reason) → Type 0
IsHeld layout read = IsOkAnd read (λ t. IsOk (image_output layout t))

-- If the input is a trace, the layout doesn't hold its image.
abbrev pub IsUnheld : Layout → Result AcceptedTrace (ℕ × Reason) → Type 0
IsUnheld layout read = IfOk read (λ t. IsErr (image_output layout t))

-- A trace whose image the layout can hold.
pub image_done :
    (layout : Layout) (run : Run) (result : Status)
    → EndsImage layout run result
    → IsSomeAnd run.left (HasImage layout)
    → result ≢ ReadFault
    → result ≢ WriteFault
    → IsAnswered (Some (Image layout)) result ⊎ (result ≡ Memory)
image_done layout run Done ends has no_read_fault no_write_fault = inl tt
image_done layout run Memory ends has no_read_fault no_write_fault = inr refl
image_done layout run Refused (inl ends) has no_read_fault no_write_fault =
    absurd
    (subst (IsHeld layout) ends.refused
    (told_input trace_input (IsHeld layout) run.left run.left_after ends.bytes long_trace
    has ends.read))
image_done layout run Refused (inr ends) has no_read_fault no_write_fault =
    (let held : IsOk (image_output layout ends.input) = subst (IsHeld layout) ends.accepted
    (told_input trace_input (IsHeld layout) run.left run.left_after ends.bytes long_trace has
    ends.read) in
    let wrong : false ≡ true = subst IsOk ends.said.1 held in
    cc)
image_done layout run CheckNo ends has no_read_fault no_write_fault = absurd ends.said
image_done layout run ReadFault ends has no_read_fault no_write_fault = absurd (no_read_fault refl)
image_done layout run WriteFault ends has no_read_fault no_write_fault =
    absurd (no_write_fault refl)
image_done layout run Usage ends has no_read_fault no_write_fault = absurd ends

-- An input that is refused, or whose image the layout can't hold.
pub image_refused :
    (layout : Layout) (run : Run) (result : Status)
    → EndsImage layout run result
    → IsSomeAnd run.left (HasNoImage layout)
    → result ≢ ReadFault
    → result ≢ WriteFault
    → (result ≡ Refused) ⊎ (result ≡ Memory)
image_refused layout run Refused ends has no_read_fault no_write_fault = inl refl
image_refused layout run Memory ends has no_read_fault no_write_fault = inr refl
image_refused layout run Done ends has no_read_fault no_write_fault =
    (let unheld : IsErr (image_output layout ends.input) = subst (IsUnheld layout) ends.accepted
    (told_input trace_input (IsUnheld layout) run.left run.left_after ends.bytes long_trace has
    ends.read) in
    let wrong : false ≡ true = subst IsErr ends.said.0 unheld in
    cc)
image_refused layout run CheckNo ends has no_read_fault no_write_fault = absurd ends.said
image_refused layout run ReadFault ends has no_read_fault no_write_fault =
    absurd (no_read_fault refl)
image_refused layout run WriteFault ends has no_read_fault no_write_fault =
    absurd (no_write_fault refl)
image_refused layout run Usage ends has no_read_fault no_write_fault = absurd ends
