use Rattle.std.proofs.Common.{arith, sym}
use Rattle.entry_model.proofs.CallRows.{row_at, row_end}
use Rattle.call_plan.proofs.plan.TrialCallList.call_at.Goals as goal

pub returns-then-made-self : goal.returns-then-made-self
returns-then-made-self c =
    let t = c.args.self.now in
    sym (row_at t.op t.first t.count c.args.made (omega (arith, c.if-made-self.true)))

pub returns-else-made-self : goal.returns-else-made-self
returns-else-made-self c =
    let t = c.args.self.now in
    sym (row_end t.op t.first t.count c.args.made (omega (arith, c.if-made-self.false)))
