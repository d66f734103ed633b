use Rattle.std.proofs.Common.{arith}
use Rattle.call_plan.proofs.ReadSteps.{fours_in_table}
use Rattle.call_plan.proofs.reading.read_range.Goals as goal

pub returns-then-has-clause-in_table : goal.returns-then-has-clause-in_table
returns-then-has-clause-in_table c =
    λ order low inside. let four = fours_in_table order c.args.index low inside in omega arith
