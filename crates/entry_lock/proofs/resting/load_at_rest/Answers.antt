use Rattle.entry_lock.proofs.StatesAtRest.{rest_allowed}
use Rattle.entry_lock.proofs.resting.load_at_rest.Goals as goal

pub load-requires : goal.load-requires
load-requires c = (
  c.requires.table.same,
  c.requires.index,
  rest_allowed c.args.table.now.key c.args.table.now.table_id.slots c.args.seat.now.id
      c.args.seat.now.me c.args.index c.requires.acting c.requires.idle c.requires.all,
)
