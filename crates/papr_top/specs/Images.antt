-- What is written of a trace under `image`.
use Rattle.std.specs.Prelude.{◌≡◌, ◌⊎◌, ℕ, List, map, ◌++◌, Result, Ok, Err, IsOk, IsErr, IsOkAnd, IfOk, codes}
use Rattle.number_text.specs.Numbers.{hex}
use Rattle.entry_model.specs.State.{State}
use Rattle.entry_model.specs.Reply.{words_of}
use Rattle.trace_read.specs.Trace.{AcceptedTrace}
use Rattle.table_image.specs.declared.entry.ImageEntry.{ImageEntry}
use Rattle.table_image.specs.declared.layout.Layout.{Layout}
use Rattle.table_image.specs.Image.{image_of}
use Rattle.papr_edge.specs.Inputs.{trace_input}
use Rattle.papr_edge.specs.Ends.{Run, Answers, Refuses, EndsReading}
use Rattle.papr_edge.specs.declared.status.Status.{Status}
use Rattle.papr_edge.specs.declared.status.Status.TheVariants.{Done, Refused}
use Rattle.papr_top.specs.Texts.{IsSerialAssured, table_at_end}

-- An entry with its index, R and C put back into doubleword 1.
abbrev pub image_entry : ℕ × State → ImageEntry
image_entry e = record {
  index = e.0;
  dword0 = (words_of e.1).0;
  dword1 = (words_of e.1).1;
}

-- The image of the table at the end; or the index of the first entry that the layout can't hold.
abbrev pub image_output : Layout → AcceptedTrace → Result (List ℕ) ℕ
image_output layout t =
    image_of layout (table_at_end t).order (map image_entry (table_at_end t).states)

-- The line that names an entry that the layout can't hold.
abbrev pub layout_refusal_text : ℕ → List ℕ
layout_refusal_text index = codes "papr: entry " ++ hex index ++ codes ": layout\n"

-- An image comes with Done, and the serial run is assured; the line of the first entry that can't
-- be held comes with Refused.
abbrev pub IsImage : Layout → AcceptedTrace → Status → List ℕ → Type 0
IsImage layout t Done text = (image_output layout t ≡ Ok text) × IsSerialAssured t
IsImage layout t Refused text =
    (index : ℕ) × (image_output layout t ≡ Err index) × (text ≡ layout_refusal_text index)
IsImage layout t other text = ⊥

-- `image` ends as a command that reads. It may also refuse an accepted trace: then the line of the
-- entry that the layout can't hold was written.
abbrev pub EndsImage : Layout → Run → Status → Type 0
EndsImage layout run Refused =
    Refuses trace_input run ⊎ Answers trace_input (λ t. IsImage layout t Refused) run
EndsImage layout run status = EndsReading trace_input (IsImage layout) run status

-- The bytes are an accepted trace, and the layout can hold each entry at its end.
abbrev pub HasImage : Layout → List ℕ → Type 0
HasImage layout bytes = IsOkAnd (trace_input bytes) (λ t. IsOk (image_output layout t))

-- The bytes are refused, or the layout can't hold an entry at the end of their trace.
abbrev pub HasNoImage : Layout → List ℕ → Type 0
HasNoImage layout bytes = IfOk (trace_input bytes) (λ t. IsErr (image_output layout t))
