use Rattle.std.proofs.Common.{arith}
use Rattle.run_model.proofs.StoreNumbers.{has_index, has_no_index}
use Rattle.run_model.proofs.store_numbers.store_of.Goals as goal

pub returns-in_default-clause-store : goal.returns-in_default-clause-store
returns-in_default-clause-store c =
    has_no_index c.args.windows.now c.args.act.now c.window_of.result c.window_of.ensures
    c.in_default.not-Some

pub prove-unreachable-requires : goal.prove-unreachable-requires
prove-unreachable-requires c =
    let h = has_index c.args.windows.now c.args.act.now c.window_of.result c.in-Some.at
    c.window_of.ensures c.in-Some.is in
    absurd (omega (arith, h.inside, c.if-prove.true))

pub returns-clause-store : goal.returns-clause-store
returns-clause-store c =
    (has_index c.args.windows.now c.args.act.now c.window_of.result c.in-Some.at
    c.window_of.ensures c.in-Some.is).store
