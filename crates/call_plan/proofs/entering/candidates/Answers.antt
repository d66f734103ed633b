use Rattle.std.proofs.Common.{arith}
use Rattle.call_plan.proofs.Search.{groups_of_eight}
use Rattle.call_plan.proofs.entering.candidates.Goals as goal

pub returns-else-has-clause-in_table : goal.returns-else-has-clause-in_table
returns-else-has-clause-in_table c =
    λ order low inside. let whole = groups_of_eight order low in omega arith
