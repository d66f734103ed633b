use Rattle.trace_read.proofs.LineRefusals.{tables_name_a_grant}
use Rattle.trace_read.proofs.laws.tables_name_a_grant.Goals as goal

pub returns : goal.returns
returns c = tables_name_a_grant
