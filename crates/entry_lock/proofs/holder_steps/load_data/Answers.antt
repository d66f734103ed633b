use Rattle.std.proofs.Common.{arith, subst, sym}
use mathlib.Core.Option.{none}
use Rattle.atomic_table.specs.Table.{step, Allows}
use Rattle.entry_lock.specs.Rule.{ShowsRun}
use Rattle.entry_lock.specs.Plays.{HeldDataPlay}
use Rattle.entry_lock.proofs.Places.{data_before}
use Rattle.entry_lock.proofs.AllowedSteps.{load_allowed}
use Rattle.entry_lock.proofs.holder_steps.load_data.Goals as goal

pub load-requires : goal.load-requires
load-requires c =
    let t = c.requires.table in
    let words = t.words in
    let inside = c.requires.entry in
    let b = data_before c.args.second c.args.doing.now.entry in
    let e = c.data_index.ensures in (
      t.same,
      (omega arith),
      subst
          (λ i.
          Allows (ShowsRun c.args.table.now.key) c.args.table.now.table_id.slots c.args.seat.now.id
          c.args.seat.now.me i (λ k. k)
          (HeldDataPlay (step c.args.table.now.table_id.slots i 0 0 none) c.args.seat.now.me))
          (sym e)
          (load_allowed c.args.table.now.key c.args.table.now.table_id.slots c.args.seat.now.id
          c.args.seat.now.me c.requires.acting c.args.doing.now inside c.args.second
          c.requires.held c.requires.valid),
    )
