use Rattle.std.proofs.Common.{arith, subst, sym}
use mathlib.Core.Option.{none}
use Rattle.atomic_table.specs.Table.{step, Allows}
use Rattle.entry_model.specs.declared.line.Line.{Line}
use Rattle.lock_core.specs.declared.doing.Doing.{Doing}
use Rattle.entry_lock.specs.Layout.{control_place}
use Rattle.entry_lock.specs.Rule.{ShowsRun}
use Rattle.entry_lock.specs.LineSteps.{LineSecondLookTells}
use Rattle.entry_lock.specs.Plays.{LinePlay}
use Rattle.entry_lock.proofs.AllowedSteps.{known_again_allowed}
use Rattle.entry_lock.proofs.line_steps.look_line_again.Goals as goal

pub load-requires : goal.load-requires
load-requires g c =
    let t = c.requires.table in
    let words = t.words in
    let inside = c.requires.entry in
    let d = c.args.doing.now in (
      t.same,
      (omega arith),
      subst
          (λ (z : Line × Doing).
          Allows (ShowsRun c.args.table.now.key) c.args.table.now.table_id.slots c.args.seat.now.id
          c.args.seat.now.me (control_place d.entry) (λ k. k)
          (LinePlay (LineSecondLookTells z.0 z.1)
          (step c.args.table.now.table_id.slots (control_place d.entry) 0 0 none)
          c.args.seat.now.me)) (λ i. (sym c.requires.cached i, sym c.requires.said i))
          (known_again_allowed c.args.table.now.key c.args.table.now.table_id.slots
          c.args.seat.now.id c.args.seat.now.me c.requires.acting c.args.known.now d inside
          c.requires.looked c.requires.read c.requires.on c.requires.stamp c.requires.seen
          c.requires.unread.0 c.requires.unread.1 c.requires.may),
    )

pub returns-clause-told : goal.returns-clause-told
returns-clause-told g c =
    subst
    (λ (z : Line × Doing).
    LineSecondLookTells z.0 z.1 c.args.seat.now.me.0 c.load.result c.load.new.seat.me.0)
    (λ i. (c.requires.cached i, c.requires.said i)) c.load.ensures.2.0
