use Rattle.trace_read.proofs.LineRefusals.{none_is_refused_for_a_partition}
use Rattle.trace_read.proofs.laws.none_is_refused_for_a_partition.Goals as goal

pub returns : goal.returns
returns c = none_is_refused_for_a_partition
