use Rattle.std.proofs.Common.{◌≡◌, ◌++◌, drop, map}
use Rattle.lpar_set.specs.OpeningTables.{HasRoomFor}
use Rattle.lpar_set.specs.SetTrace.{NumberedTrace}
use Rattle.lpar_set.specs.SetRun.{opening_pool, opening_members}
use Rattle.lpar_set.proofs.members.open_members.Given as goal

-- The partitions so far and those that are left are all, the pool is theirs, and it has room for
-- the tables that are left.
abbrev pub invariant-loop-partition : goal.invariant-loop-partition
invariant-loop-partition l = record {
  told :
      l.members.items ++ opening_members l.pool (drop l.partition-index l.partitions)
      ≡ opening_members l.fn.pool l.partitions;
  pool :
      opening_pool l.pool (drop l.partition-index l.partitions)
      ≡ opening_pool l.fn.pool l.partitions;
  room :
      HasRoomFor l.pool
      (map (λ (p : NumberedTrace). p.trace.config.order) (drop l.partition-index l.partitions));
}
