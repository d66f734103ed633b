-- The line of an entry in an image, among the bytes of another trace.
use Rattle.std.specs.Prelude.{◌≡◌, ◌≢◌, ◌≤◌, ◌<◌, ℕ, ◌+◌, true, false, List, [], ◌∷◌, ◌++◌, length, codes, Contains, Some, Result, Ok}
use Rattle.std.specs.List.{AllByRecursion}
use Rattle.table_image.specs.declared.entry.ImageEntry.{ImageEntry}
use Rattle.table_image.specs.declared.layout.Layout.{Layout}
use Rattle.table_image.specs.Image.{layout_word, digits_line}
use Rattle.table_image.specs.Layouts.{entry_digits}
use Rattle.trace_line.specs.declared.line.TraceLine.{TraceLine}
use Rattle.trace_read.specs.declared.forms.Form.TheVariants.{Entry}
use Rattle.trace_read.specs.declared.why.Why.{Why}
use Rattle.trace_read.specs.Configuration.{Configuration}
use Rattle.trace_read.specs.Grammar.{Reading, opening_reading, after_line, most_bytes, trace_of}
use Rattle.trace_read.specs.Places.{comes_at}
use Rattle.trace_read.specs.TextLines.{is_lf}
use Rattle.trace_read.specs.Trace.{AcceptedTrace, IsAccepted}
use Rattle.trace_read.specs.Whys.{◌>>=◌}
use Rattle.entry_model.specs.State.{State}
use Rattle.entry_model.specs.Reply.{words_of}
use Rattle.entry_model.specs.Run.{state_at}
use Rattle.run_model.specs.OpeningAgain.{image_entry, memory_after, opening_states, with_image_entry}
use Rattle.run_model.specs.QuietLines.{shown_of}
use Rattle.trace_line.specs.Lines.{most_lines}

-- ---- the bytes
-- Lines, each with its LF.
abbrev pub with_lfs : List (List ℕ) → List ℕ
with_lfs [] = []
with_lfs (line ∷ rest) = line ++ 10 ∷ with_lfs rest

-- A trace of these lines, then `entry` with the word of a layout and the line of an image, and
-- `begin`.
abbrev pub bytes_again : List (List ℕ) → Layout → ℕ → List ℕ → List ℕ
bytes_again head layout index digits =
    with_lfs head
    ++ codes "entry "
    ++ layout_word layout
    ++ codes " "
    ++ digits_line index digits
    ++ codes "begin\n"

-- ---- the lines before
-- The reading after these lines, where none is refused.
abbrev pub reading_after : Reading → List (List ℕ) → Result Reading Why
reading_after r [] = Ok r
reading_after r (line ∷ rest) = do
  s ← after_line r line
  reading_after s rest

-- These lines are accepted, an entry and then `begin` may follow them, and there is room for two
-- lines.
pub record MayHaveEntry (head : List (List ℕ)) (r : Reading) : Type 0 where
  pub lines : AllByRecursion (λ line. AllByRecursion (λ c. is_lf c ≡ false) line) head
  pub read : reading_after opening_reading head ≡ Ok r
  pub place : comes_at Entry r.stage ≡ true
  pub room : r.config.order ≤ r.config.granted.pool_order
  pub few : length head + 2 ≤ most_lines

-- ---- the law
-- The bytes are a trace of the configuration with the entry. Its table opens with the entry's
-- doublewords, R and C, at stamp 0; every other entry opens as without the line.
pub record IsTraceWithEntry
    (bytes : List ℕ) (c : Configuration) (index : ℕ) (s : State) : Type 0
  where
    pub trace : AcceptedTrace
    pub accepted : trace_of bytes ≡ Ok trace
    pub config : trace.config ≡ with_image_entry c (image_entry index s)
    pub state : state_at (opening_states trace.config) index ≡ record s { stamp = 0 }
    pub others :
        (other : ℕ)
        → other ≢ index
        → state_at (opening_states trace.config) other ≡ state_at (opening_states c) other

-- Each valid entry of each table that a serial run reaches, by its line in an image whose layout
-- can hold it, opens so after lines of a trace with that table's order, the same grants, and
-- entries of lower indices alone.
abbrev pub ImageLinesOpenAgain : Type 0
ImageLinesOpenAgain =
    (t : AcceptedTrace) (lines : List TraceLine) (layout : Layout) (index : ℕ) (s : State)
    (digits : List ℕ) (head : List (List ℕ)) (r : Reading)
    → IsAccepted t
    → Contains (shown_of (memory_after t lines)).states (index, s)
    → entry_digits layout (words_of s) ≡ Some digits
    → MayHaveEntry head r
    → r.config.order ≡ (memory_after t lines).table.order
    → r.config.granted.grants ≡ t.config.granted.grants
    → AllByRecursion (λ (e : ImageEntry). e.index < index) r.config.entries
    → length (bytes_again head layout index digits) ≤ most_bytes
    → IsTraceWithEntry (bytes_again head layout index digits) r.config index s
