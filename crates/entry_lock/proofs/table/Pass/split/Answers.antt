use Rattle.std.proofs.Common.{arith}
use Rattle.entry_lock.proofs.SplitsAndJoins.{splits}
use Rattle.entry_lock.proofs.table.Pass.split.Goals as goal

pub split_seat-seat-requires : goal.split_seat-seat-requires
split_seat-seat-requires c =
    let a = c.args.self.now.idle in
    let t = c.args.table.now.sized in
    let n = c.args.self.now.counted.count in
    let two = c.requires.two in (
      c.requires.table.0,
      (let w = t.words in omega arith),
      splits c.args.table.now.table.shared.key c.args.self.now.seat.id c.args.self.now.seat.me.0
          a.acting a.idle (omega arith),
    )
