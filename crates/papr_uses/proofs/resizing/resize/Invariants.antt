use Rattle.std.proofs.Common.{◌≡◌}
use Rattle.partition.specs.PartitionState.{HasStates}
use Rattle.papr_uses.proofs.resizing.resize.Given as goal

-- the partition has its table still
abbrev pub invariant-loop-call : goal.invariant-loop-call
invariant-loop-call l =
    HasStates l.partition × (l.partition.memory.table ≡ l.initial.partition.memory.table)
