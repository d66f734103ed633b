use Rattle.std.proofs.Common.{arith}
use Rattle.entry_lock.proofs.AllowedSteps.{shares_allowed}
use Rattle.entry_lock.proofs.access_steps.bound_shares.Goals as goal

pub load-requires : goal.load-requires
load-requires c =
    let t = c.requires.table in let words = t.words in (
      t.same,
      (omega arith),
      shares_allowed c.args.table.now.key c.args.table.now.table_id.slots c.args.seat.now.id
          c.args.seat.now.me c.requires.acting,
    )
