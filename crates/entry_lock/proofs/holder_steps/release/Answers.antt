use Rattle.std.proofs.Common.{arith}
use Rattle.entry_lock.proofs.AllowedSteps.{release_allowed}
use Rattle.entry_lock.proofs.holder_steps.release.Goals as goal

pub fetch_and-requires : goal.fetch_and-requires
fetch_and-requires c =
    let t = c.requires.table in let words = t.words in let inside = c.requires.entry in (
      t.same,
      (omega arith),
      release_allowed c.args.table.now.key c.args.table.now.table_id.slots c.args.seat.now.id
          c.args.seat.now.me c.requires.acting c.args.doing.now inside c.requires.held
          c.requires.may,
    )
