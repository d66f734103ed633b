use Rattle.run_model.proofs.Refusals.{hcall_leaves}
use Rattle.run_model.proofs.store_laws.refused_calls_leave_entries.Goals as goal

pub returns : goal.returns
returns c = hcall_leaves
