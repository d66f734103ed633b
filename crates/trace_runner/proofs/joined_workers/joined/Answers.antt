use Rattle.trace_runner.proofs.JoinedWorkers.{pair_both}
use Rattle.trace_runner.proofs.joined_workers.joined.Goals as goal

pub returns : goal.returns
returns c =
    let e = c.join.ensures in
    rw (c.in-Some.is, c.in-Some-one.is)
    (pair_both c.args.table.now c.in-Some-one.both c.in-Some.other c.join.new.self
    (record {
      of = e.table;
      shares = e.shares;
      receipts = e.receipts;
      lines = e.seen;
      gone = e.gone;
    }))
