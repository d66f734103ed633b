use Rattle.std.proofs.Common.{arith}
use Rattle.entry_lock.proofs.AllowedSteps.{settle_allowed}
use Rattle.entry_lock.proofs.holder_steps.settle.Goals as goal

pub store-requires : goal.store-requires
store-requires c =
    let t = c.requires.table in let words = t.words in let inside = c.requires.entry in (
      t.same,
      (omega arith),
      settle_allowed c.args.table.now.key c.args.table.now.table_id.slots c.args.seat.now.id
          c.args.seat.now.me c.requires.acting c.args.doing.now inside c.args.new c.requires.shut
          c.requires.stored c.requires.new,
    )
