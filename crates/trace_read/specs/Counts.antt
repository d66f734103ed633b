-- The quiet lines and the dumps among the run lines, and whether a further line may come.
use Rattle.std.specs.Prelude.{◌≡◌, ◌≤◌, ℕ, ◌&&◌, List, nat_le, not, Result}
use Rattle.trace_line.specs.declared.act.Act.{Act}
use Rattle.trace_line.specs.declared.line.TraceLine.{TraceLine}
use Rattle.trace_read.specs.declared.why.Why.{Why}
use Rattle.trace_read.specs.declared.why.Why.TheVariants.{Dumps, Quiet}
use Rattle.trace_line.specs.Lines.{is_quiet, is_dump, most_dumps, most_quiet_lines, count_acts}
use Rattle.trace_read.specs.Whys.{◌>>=◌, guard}

-- No more dumps, and no more quiet lines, than a trace may have.
unfoldable pub may_add : List TraceLine → Act → Result (Unit {0}) Why
may_add lines act = do
  dumps ← guard (not (is_dump act && nat_le most_dumps (count_acts is_dump lines))) Dumps
  guard (not (is_quiet act && nat_le most_quiet_lines (count_acts is_quiet lines))) Quiet

-- No more than a trace may have.
pub record AreFew (lines : List TraceLine) : Type 0 where
  pub quiet_lines : count_acts is_quiet lines ≤ most_quiet_lines
  pub dump_lines : count_acts is_dump lines ≤ most_dumps

-- What is counted.
pub record IsCounted (quiet dumps : ℕ) (lines : List TraceLine) : Type 0 where
  pub quiet_lines : count_acts is_quiet lines ≡ quiet
  pub dump_lines : count_acts is_dump lines ≡ dumps
  pub few_quiet : quiet ≤ most_quiet_lines
  pub few_dumps : dumps ≤ most_dumps
