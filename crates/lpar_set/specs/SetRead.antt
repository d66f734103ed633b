-- What the code that reads a set answers, and what it needs.
use Rattle.std.specs.Prelude.{◌≡◌, ℕ, ◌<◌, ◌≤◌, ◌&&◌, not, Bool, true, false, List, length, nat_lt, slice_index_or, slice_set, unwrap_or, Option, None, Some, Result, Ok, Err}
use Rattle.trace_read.specs.declared.given.Given.{Given}
use Rattle.trace_read.specs.declared.given.Given.TheVariants as givens
use Rattle.trace_read.specs.declared.parser.TraceError.{TraceError}
use Rattle.trace_read.specs.declared.parser.TraceError.TheVariants as errors
use Rattle.trace_read.specs.declared.stop.Stop.{Stop}
use Rattle.trace_read.specs.declared.stop.Stop.TheVariants as stops
use Rattle.trace_read.specs.declared.why.Why.{Why}
use Rattle.trace_read.specs.Givens.{is_setting}
use Rattle.trace_read.specs.Grammar.{Reading}
use Rattle.trace_read.specs.Places.{is_running}
use Rattle.lpar_set.specs.SetTrace.{NumberedTrace}
use Rattle.lpar_set.specs.SetGrammar.{SetReading, reading_of, trace_read_so}
use Rattle.hpte_fields.specs.TableSize.{IsTableOrder}
use Rattle.trace_line.specs.Lines.{most_lines}

-- The set after a line is as the line says, or it is refused as it says, unless there is no memory.
-- After a refusal the set isn't read on.
abbrev pub TakesTo : Result SetReading Why → Result (Unit {0}) Stop → SetReading → Type 0
TakesTo said (Ok done) new = said ≡ Ok new
TakesTo said (Err stops.Memory) new = Unit {0}
TakesTo said (Err (stops.Refused why)) new = said ≡ Err why

-- A refusal has the number of its line.
abbrev pub stop_error : ℕ → Stop → TraceError
stop_error line (stops.Refused why) = errors.Line line why
stop_error line stops.Memory = errors.Memory

-- Before the line that is counted last, no partition has taken a line with its number, and where
-- one hasn't begun there is a place for it among those that have.
pub record IsReady (r : SetReading) : Type 0 where
  pub few : r.taken ≤ most_lines
  pub earlier : (number : ℕ) → (reading_of r number).taken < r.taken
  pub place :
      (number : ℕ)
      → number < 8
      → is_running (reading_of r number).stage ≡ false
      → length r.begun < 8

-- A configuration line after a run line of another partition, while its own has not begun. Once
-- that has, its own reading refuses such a line.
abbrev pub is_early : SetReading → ℕ → List (List ℕ) → Bool
is_early r number ws =
    (nat_lt 0 (length r.turns) && not (is_running (reading_of r number).stage)) && is_setting ws

-- The reading of a partition is among the others, whether a line has named it or not.
abbrev pub with_own : SetReading → ℕ → SetReading
with_own r number = record r { readings = slice_set r.readings number (Some (reading_of r number)) }

-- A table of this order may be asked of the pool, and there is a place among those that have begun.
pub record MayBegin (r : SetReading) (order : ℕ) : Type 0 where
  pub order_fits : IsTableOrder order
  pub place : length r.begun < 8

-- A line that gives a `begin` gives one that may be.
abbrev pub MayBeGiven : SetReading → Given → Type 0
MayBeGiven r (givens.Begin order) = MayBegin r order
MayBeGiven r other = Unit {0}

-- The reading of a number, and this one where there is none.
abbrev pub reading_or : List (Option Reading) → Reading → ℕ → Reading
reading_or readings other number = unwrap_or (slice_index_or readings number None) other

-- The trace of a number, as its lines were read.
abbrev pub partition_or : List (Option Reading) → Reading → ℕ → NumberedTrace
partition_or readings other number = trace_read_so (reading_or readings other number) number

-- The number has a reading, and its `begin` has come.
abbrev pub IsRunningAt : List (Option Reading) → Reading → ℕ → Type 0
IsRunningAt readings other number = is_running (reading_or readings other number).stage ≡ true
