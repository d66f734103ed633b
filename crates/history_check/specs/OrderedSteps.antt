-- Steps with their numbers, sorted by place, and the states that they find written at their
-- numbers.
use Rattle.std.specs.Prelude.{◌≡◌, ℕ, ◌+◌, ◌<◌, List, [], ◌∷◌, length, map, slice_index_or, slice_set, IsPermutation}
use Rattle.std.specs.List.Sorted.{IsNonDecreasingBy}
use Rattle.entry_model.specs.State.{State}
use Rattle.entry_model.specs.Run.{state_at}
use Rattle.trace_line.specs.declared.line.TraceLine.{TraceLine}
use Rattle.trace_line.specs.declared.act.Act.{Act}
use Rattle.history_check.specs.declared.mark_steps.LineStep.{LineStep}
use Rattle.history_check.specs.Steps.{after_step, ending_states}
use Rattle.history_check.specs.PlacedSteps.{PlacedStep, line_op}
use Rattle.trace_line.specs.Lines.{past_lines}

-- ---- numbers
-- A step, and which of the steps it is.
pub record Numbered : Type 0 where
  pub index : ℕ
  pub placed : PlacedStep

-- Each step with its number, counted from the given one.
abbrev pub numbered : ℕ → List PlacedStep → List Numbered
numbered i [] = []
numbered i (x ∷ xs) = record { index = i; placed = x } ∷ numbered (i + 1) xs

-- What the line of this number asks.
abbrev pub act_at : List TraceLine → ℕ → Act
act_at ls i = (slice_index_or ls i past_lines).act

-- The numbered step that the step of a line is.
abbrev pub numbered_by : List TraceLine → LineStep → Numbered
numbered_by ls x = record {
  index = x.index;
  placed =
      record {
        place = x.place;
        step =
            record {
              entry = x.entry;
              op = line_op (act_at ls x.line) x.answer;
              answer = x.answer;
            };
      };
}

-- It is on an entry of a table of this size, of one of so many lines, and one of so many steps.
pub record IsStepOf (size lines steps : ℕ) (x : LineStep) : Type 0 where
  pub entry : x.entry < size
  pub line : x.line < lines
  pub index : x.index < steps

-- The steps of lines, in an order of their places.
pub record IsOrder (steps order : List LineStep) : Type 0 where
  pub each_once : IsPermutation steps order
  pub ascending : IsNonDecreasingBy (λ (x : LineStep). x.place) order

-- ---- made in an order
-- A state, and the number of the step that found it.
pub record Found : Type 0 where
  pub index : ℕ
  pub state : State

-- The state that each step finds, made in this order, with the step's number.
abbrev pub found_in_order : List State → List Numbered → List Found
found_in_order a [] = []
found_in_order a (n ∷ ns) =
    record { index = n.index; state = state_at a n.placed.step.entry }
    ∷ found_in_order (after_step a n.placed.step) ns

-- The states after all, made in this order.
abbrev pub ending_in_order : List State → List Numbered → List State
ending_in_order a ns = ending_states a (map (λ (n : Numbered). n.placed.step) ns)

-- A list with each state written at its number.
abbrev pub with_written : List State → List Found → List State
with_written states [] = states
with_written states (f ∷ fs) = with_written (slice_set states f.index f.state) fs

-- A list of so many states, each of which was written at its number.
pub record AreWritten (count : ℕ) (found : List Found) (states : List State) : Type 0 where
  pub first : List State
  pub size : length first ≡ count
  pub written : states ≡ with_written first found
