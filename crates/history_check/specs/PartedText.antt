-- The lines of a section by stores, and their parts of a text. The reply to a line that isn't quiet
-- is one line of text.
use Rattle.std.specs.Prelude.{◌≡◌, ℕ, zero, suc, ◌<◌, ◌==◌, Bool, List, [], ◌∷◌, ◌++◌, length, slice_index_or, if◌then◌else◌}
use Rattle.bus_window.specs.Windows.{BusWindow}
use Rattle.trace_line.specs.declared.act.Act.{Act}
use Rattle.trace_line.specs.declared.line.TraceLine.{TraceLine}
use Rattle.run_model.specs.StoreNumbers.{store_of, lines_on_store}
use Rattle.history_check.specs.declared.parting.Part.{Part}

-- ---- lines of text
-- The text up to and with the first LF; all where there is none.
abbrev pub first_told : List ℕ → List ℕ
first_told [] = []
first_told (c ∷ text) = if c == 10 then c ∷ [] else c ∷ first_told text

-- The text after that.
abbrev pub behind_told : List ℕ → List ℕ
behind_told [] = []
behind_told (c ∷ text) = if c == 10 then text else behind_told text

-- The text after so many lines.
abbrev pub behind_lines : ℕ → List ℕ → List ℕ
behind_lines zero text = text
behind_lines (suc n) text = behind_lines n (behind_told text)

-- ---- those of some lines
-- The part of a text that is that of the lines that pass a test: each line has one line of text.
abbrev pub part_text : (Act → Bool) → List TraceLine → List ℕ → List ℕ
part_text f [] text = []
part_text f (l ∷ ls) text =
    (if f l.act then first_told text else []) ++ part_text f ls (behind_told text)

-- The part that is that of the lines on the store of a number.
abbrev pub part_on_store : List BusWindow → ℕ → List TraceLine → List ℕ → List ℕ
part_on_store ws number ls text = part_text (λ act. store_of ws act == number) ls text

-- ---- lines dealt to their stores
-- These are the lines on the store of the number, and their part of the text.
pub record IsPartOf
    (ws : List BusWindow)
    (number : ℕ)
    (ls : List TraceLine)
    (text : List ℕ)
    (part : Part)
    : Type 0
  where
    pub lines : part.lines.items ≡ lines_on_store ws number ls
    pub told : part.text.items ≡ part_on_store ws number ls text

-- There is a part for each number, with the lines and the text of its store.
abbrev pub AreParts : List BusWindow → List TraceLine → List ℕ → List Part → Type 0
AreParts ws ls text parts =
    (number : ℕ) (d : Part)
    → number < length parts
    → IsPartOf ws number ls text (slice_index_or parts number d)
