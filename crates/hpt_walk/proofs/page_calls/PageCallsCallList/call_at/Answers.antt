use Rattle.std.proofs.Common.{◌≡◌, ◌+◌, ◌-◌, ◌*◌, arith, sym, ◌∙◌}
use Rattle.entry_model.proofs.TrialSteps.{calls_from}
use Rattle.entry_model.proofs.CallRows.{row_at, at_behind}
use Rattle.hpt_walk.proofs.page_calls.PageCallsCallList.call_at.Goals as goal

pub returns-then-made : goal.returns-then-made
returns-then-made c =
    let p = c.args.self.now in
    let early = calls_from p.early (p.primary * 8) 8 in
    let late = calls_from p.late (p.secondary * 8) 8 in
    let past = c.if-made-lt-GROUP_SIZE.false in
    let behind : c.args.made ≡ 8 + (c.args.made - 8) = omega (arith, past) in
    sym (at_behind early late (c.args.made - 8) c.args.made behind
    ∙ row_at p.late (p.secondary * 8) 8 (c.args.made - 8) (omega (arith, past, c.if-made.true)))
