use Rattle.std.specs.Prelude.{length}
use Rattle.std.proofs.Common.{◌<◌, arith, subst, sym, ap, ◌∙◌}
use mathlib.Core.Option.{none}
use Rattle.atomic_table.specs.Table.{step, Allows}
use Rattle.entry_lock.specs.Layout.{data_place}
use Rattle.entry_lock.specs.Views.{states_of}
use Rattle.entry_lock.specs.Rule.{ShowsRun}
use Rattle.entry_lock.specs.Plays.{LookedDataPlay}
use Rattle.entry_lock.proofs.Places.{data_before}
use Rattle.entry_lock.proofs.AllowedSteps.{looked_load_allowed}
use Rattle.entry_lock.proofs.access_steps.load_looked.Goals as goal

pub load-requires : goal.load-requires
load-requires c =
    let t = c.requires.table in
    let words = t.words in
    let inside = c.requires.entry in
    let b = data_before c.args.second c.args.entry in
    let e = c.data_index.ensures in
    let l = c.requires.looked in
    let inside' : l.0.entry < length (states_of c.args.table.now.key) = subst
    (λ n. n < length (states_of c.args.table.now.key)) (sym l.2) inside in (
      t.same,
      (omega arith),
      subst
          (λ i.
          Allows (ShowsRun c.args.table.now.key) c.args.table.now.table_id.slots c.args.seat.now.id
          c.args.seat.now.me i (λ k. k)
          (LookedDataPlay (step c.args.table.now.table_id.slots i 0 0 none)
          c.args.seat.now.me)) (ap (λ n. data_place n c.args.second) l.2 ∙ sym e)
          (looked_load_allowed c.args.table.now.key c.args.table.now.table_id.slots
          c.args.seat.now.id c.args.seat.now.me c.requires.acting l.0 inside' c.args.second l.1
          l.3),
    )
