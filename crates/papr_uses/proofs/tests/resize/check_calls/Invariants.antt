use Rattle.partition.specs.PartitionState.{HasStates}
use Rattle.papr_uses.proofs.tests.resize.check_calls.Given as goal

abbrev pub invariant-loop-call : goal.invariant-loop-call
invariant-loop-call g l = HasStates l.partition
