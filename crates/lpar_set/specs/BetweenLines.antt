-- What holds of one partition of a set between two lines, whatever the pool has.
use Rattle.run_model.specs.HeldLines.{AllHold}
use Rattle.lpar_set.specs.SetRun.{MemberState}
use Rattle.lpar_set.specs.SetStates.{IsMember}

-- Its orders and states are those of a partition, and all cached translations hold of its table.
pub record IsBetweenLines (m : MemberState) : Type 0 where
  pub member : IsMember m
  pub hold : AllHold m.table.states m.processors
