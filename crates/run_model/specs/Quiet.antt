-- A run's lines cut at the quiet ones: those before the first, and each with those after it.
use Rattle.std.specs.Prelude.{◌≡◌, false, List, [], ◌∷◌, if◌then◌else◌}
use Rattle.std.specs.List.{AllByRecursion}
use Rattle.trace_line.specs.Lines.{is_quiet}
use Rattle.trace_line.specs.declared.line.TraceLine.{TraceLine}
use Rattle.trace_reply.specs.Replies.{RepliedLine}

-- A quiet line, and the lines after it up to the next one.
abbrev pub QuietPart : Type 0
QuietPart = RepliedLine × List RepliedLine

-- A line before those that were cut already.
abbrev pub cut_before :
    RepliedLine → List RepliedLine × List QuietPart → List RepliedLine × List QuietPart
cut_before t x = if is_quiet t.line.act then ([], (t, x.0) ∷ x.1) else (t ∷ x.0, x.1)

-- The lines before the first quiet line; and each quiet line with the lines after it.
abbrev pub cut : List RepliedLine → List RepliedLine × List QuietPart
cut [] = ([], [])
cut (t ∷ ts) = cut_before t (cut ts)

-- None of the lines is quiet.
abbrev pub NoneQuiet : List TraceLine → Type 0
NoneQuiet ls = AllByRecursion (λ (l : TraceLine). is_quiet l.act ≡ false) ls
