use Rattle.std.proofs.Common.{arith}
use Rattle.history_check.proofs.CallSteps.{few_ops}
use Rattle.history_check.proofs.calls.call_names_few.Goals as goal

pub returns : goal.returns
returns c = few_ops c.args.context.now c.args.hcall c.args.args.now (omega arith)
