use Rattle.std.proofs.Common.{arith}
use Rattle.entry_lock.proofs.AllowedSteps.{shut_allowed}
use Rattle.entry_lock.proofs.holder_steps.shut.Goals as goal

pub fetch_or-requires : goal.fetch_or-requires
fetch_or-requires c =
    let t = c.requires.table in let words = t.words in let inside = c.requires.entry in (
      t.same,
      (omega arith),
      shut_allowed c.args.table.now.key c.args.table.now.table_id.slots c.args.seat.now.id
          c.args.seat.now.me c.requires.acting c.args.doing.now inside c.requires.held
          c.requires.may,
    )
