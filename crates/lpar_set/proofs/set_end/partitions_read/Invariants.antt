use Rattle.std.specs.List.{AllByRecursion}
use Rattle.std.proofs.Common.{◌≡◌, map, take}
use Rattle.trace_read.specs.Grammar.{Reading}
use Rattle.trace_read.specs.Trace.{IsAccepted}
use Rattle.lpar_set.specs.SetTrace.{NumberedTrace}
use Rattle.lpar_set.specs.SetRead.{partition_or}
use Rattle.lpar_set.proofs.ReadEnds.{AreLeft}
use Rattle.lpar_set.proofs.set_end.partitions_read.Given as goal

-- The readings of the numbers so far are the partitions, and those of the numbers to come are still
-- there.
abbrev pub invariant-loop-number : goal.invariant-loop-number
invariant-loop-number l = record {
  read :
      (other : Reading)
      → l.partitions.items
      ≡ map (partition_or l.fn.readings.items other) (take l.number-index l.begun);
  accepted : AllByRecursion (λ (p : NumberedTrace). IsAccepted p.trace) l.partitions.items;
  left : AreLeft l.fn.readings.items l.readings.items l.begun l.number-index;
}
