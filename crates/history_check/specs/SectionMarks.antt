-- The marks of a section's lines, read from a text that begins with their replies.
use Rattle.std.specs.Prelude.{◌≡◌, ℕ, ◌<◌, ◌≤◌, ◌⊎◌, List, [], ◌∷◌, ◌++◌, length, map}
use Rattle.std.specs.List.{AllByRecursion}
use Rattle.run_model.specs.StoreContexts.{StoreContext}
use Rattle.trace_line.specs.declared.line.TraceLine.{TraceLine}
use Rattle.trace_reply.specs.declared.reply.Reply.{Reply}
use Rattle.trace_reply.specs.Replies.{RepliedLine, AreReplies, lines_with_replies}
use Rattle.receipt_text.specs.declared.mark.Mark.{Mark}
use Rattle.receipt_text.specs.Marks.{IsMark}
use Rattle.history_check.specs.declared.mark_steps.LineStep.{LineStep}
use Rattle.history_check.specs.FoundSection.{lines_text}
use Rattle.history_check.specs.OrderedSteps.{IsStepOf, numbered, numbered_by}
use Rattle.history_check.specs.PlacedSteps.{PlacedStep, AreInTable, named_ops, placed_line}
use Rattle.history_check.specs.ReplyMarks.{marks_in}

-- The steps of lines whose replies show these marks, one line after the other.
abbrev pub section_steps : List TraceLine → List (List Mark) → List PlacedStep
section_steps [] mss = []
section_steps (l ∷ ls) [] = []
section_steps (l ∷ ls) (ms ∷ mss) = placed_line l.act ms ++ section_steps ls mss

-- The reply's marks are in their ranges, and no more than its line's operations: an access has
-- sixteen.
pub record HasItsMarks (context : StoreContext) (t : RepliedLine) : Type 0 where
  pub marks : AllByRecursion IsMark (marks_in t.reply)
  pub few :
      (length (marks_in t.reply) ≤ 16)
      ⊎ (length (marks_in t.reply) ≤ length (named_ops context t.line.act))

-- The lines have these replies, whose marks their texts show, and the text begins with these,
-- before the rest.
pub record ShowMarks
    (context : StoreContext)
    (ls : List TraceLine)
    (given : List ℕ)
    (rs : List Reply)
    (rest : List ℕ)
    : Type 0
  where
    pub kinds : AreReplies ls rs
    pub marks : AllByRecursion (HasItsMarks context) (lines_with_replies ls rs)
    pub text : given ≡ lines_text (lines_with_replies ls rs) ++ rest

-- The marks of each reply are of entries of a table of this size.
abbrev pub MarkEntries : ℕ → List Reply → Type 0
MarkEntries size rs =
    AllByRecursion (λ r. AllByRecursion (λ (m : Mark). m.entry < size) (marks_in r)) rs

-- The lines' marks that were read: their steps, which are on entries of a table of this size, and
-- how many each line has. Any replies with whose text the text begins have these marks.
pub record ReadMarks
    (context : StoreContext)
    (size : ℕ)
    (ls : List TraceLine)
    (given : List ℕ)
    (steps : List LineStep)
    (counted : List ℕ)
    : Type 0
  where
    pub marks : List (List Mark)
    pub each : length marks ≡ length ls
    pub numbers : map (numbered_by ls) steps ≡ numbered 0 (section_steps ls marks)
    pub within : AllByRecursion (IsStepOf size (length ls) (length steps)) steps
    pub counts : counted ≡ map length marks
    pub in_table : AreInTable size (section_steps ls marks)
    pub only :
        (rs : List Reply) (rest : List ℕ)
        → ShowMarks context ls given rs rest
        → map marks_in rs ≡ marks

-- The text begins with no replies to the lines that show marks of entries of a table of this size.
abbrev pub NoMarks : StoreContext → ℕ → List TraceLine → List ℕ → Type 0
NoMarks context size ls text =
    (rs : List Reply) (rest : List ℕ)
    → ShowMarks context ls text rs rest
    → MarkEntries size rs
    → ⊥
