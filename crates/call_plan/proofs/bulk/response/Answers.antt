use Rattle.std.proofs.Common.{arith}
use Rattle.call_plan.proofs.RequestBits.{response_bits}
use Rattle.call_plan.proofs.bulk.response.Goals as goal

pub returns : goal.returns
returns c = rw c.from.ensures (response_bits c.args.status c.args.request (omega arith) c.requires)
