-- Laws of lines read one by one with their numbers: they give what the whole input gives.
use Rattle.std.specs.Prelude.{◌≡◌, ◌<◌, ◌≤◌, ℕ, true, List, [], ◌∷◌, ◌++◌, Ok}
use Rattle.std.specs.List.{list_all}
use Rattle.trace_read.specs.Grammar.{Reading, reading_beside, after_text, after_numbered, after_lines, go_on, trace_at_end}
use Rattle.trace_read.specs.Numbered.{AreNumbered, numbered, after_each, trace_given}
use Rattle.trace_read.specs.TextLines.{is_printable, without_cr, words_of}
use Rattle.trace_line.specs.Lines.{most_lines}

-- Lines that are given with their numbers are read just as the whole input that has them at these
-- numbers, and remarks between: both give the same trace, or refuse the same line for the same
-- reason.
abbrev pub ReadsAsTheInput : Type 0
ReadsAsTheInput =
    (pool_base pool_order : ℕ) (lines : List (ℕ × List ℕ))
    → AreNumbered 0 lines
    → after_lines (reading_beside pool_base pool_order) (numbered 0 lines)
    ≡ trace_given (reading_beside pool_base pool_order) lines

-- Where the lines so far are accepted, a further one is refused just where and as the whole input
-- is that ends with it; and where it is accepted, the input ends as its reading does.
abbrev pub RefusesAsTheInput : Type 0
RefusesAsTheInput =
    (pool_base pool_order : ℕ)
    (accepted : List (ℕ × List ℕ))
    (number : ℕ)
    (line : List ℕ)
    (r : Reading)
    → AreNumbered 0 (accepted ++ (number, line) ∷ [])
    → after_each (reading_beside pool_base pool_order) accepted ≡ Ok r
    → after_lines
    (reading_beside pool_base pool_order)
    (numbered 0 (accepted ++ (number, line) ∷ []))
    ≡ go_on number (after_numbered number r line) trace_at_end

-- A line of text is read as its words are.
abbrev pub TextIsReadByWords : Type 0
TextIsReadByWords =
    (r : Reading) (number : ℕ) (line : List ℕ)
    → 0 < number
    → number ≤ most_lines
    → list_all is_printable (without_cr line) ≡ true
    → after_numbered number r line
    ≡ after_text (record r { taken = number }) (words_of (without_cr line))
