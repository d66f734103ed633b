use Rattle.entry_lock.specs.PassOfTable.{IsOf}
use Rattle.table_bench.proofs.kinds.workers_of.Given as goal

abbrev pub invariant-loop-rest : goal.invariant-loop-rest
invariant-loop-rest g l = IsOf l.table l.rest

abbrev pub decreases-loop-rest : goal.decreases-loop-rest
decreases-loop-rest g l = l.rest.shares
