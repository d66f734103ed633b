-- The steps of lines, by the marks of their replies.
use Rattle.std.specs.Prelude.{ℕ, ◌+◌, List, [], ◌∷◌, ◌++◌, length}
use Rattle.trace_line.specs.declared.act.Act.{Act}
use Rattle.trace_line.specs.declared.line.TraceLine.{TraceLine}
use Rattle.receipt_text.specs.declared.mark.Mark.{Mark}
use Rattle.history_check.specs.declared.mark_steps.LineStep.{LineStep}
use Rattle.history_check.specs.Steps.{place_by}
use Rattle.history_check.specs.PlacedSteps.{is_store_act}

-- The steps of the line of this number, which asks this, with their numbers from the given one on.
abbrev pub mark_steps : ℕ → ℕ → Act → List Mark → List LineStep
mark_steps line index act [] = []
mark_steps line index act (m ∷ ms) =
    record {
      place = place_by m (is_store_act act);
      index = index;
      line = line;
      entry = m.entry;
      answer = m.answer;
    }
    ∷ mark_steps line (index + 1) act ms

-- The steps of lines, one line after the other, with the numbers of lines and steps from the given
-- ones on.
abbrev pub lines_steps : ℕ → ℕ → List TraceLine → List (List Mark) → List LineStep
lines_steps line index [] mss = []
lines_steps line index (l ∷ ls) [] = []
lines_steps line index (l ∷ ls) (ms ∷ mss) =
    mark_steps line index l.act ms
    ++ lines_steps (line + 1) (index + length ms) ls mss
