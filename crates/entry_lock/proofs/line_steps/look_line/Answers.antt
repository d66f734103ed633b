use Rattle.std.proofs.Common.{arith, subst, sym}
use mathlib.Core.Option.{none}
use Rattle.atomic_table.specs.Table.{step, Allows}
use Rattle.entry_model.specs.declared.line.Line.{Line}
use Rattle.entry_model.specs.declared.operation.Op.{Op}
use Rattle.entry_lock.specs.Layout.{control_place}
use Rattle.entry_lock.specs.Rule.{ShowsRun}
use Rattle.entry_lock.specs.LineSteps.{LineLookTells}
use Rattle.entry_lock.specs.Plays.{LinePlay}
use Rattle.entry_lock.proofs.AllowedSteps.{known_allowed}
use Rattle.entry_lock.proofs.line_steps.look_line.Goals as goal

pub load-requires : goal.load-requires
load-requires g c =
    let t = c.requires.table in
    let words = t.words in
    let inside = c.requires.entry in
    let l = c.args.known.now in (
      t.same,
      (omega arith),
      subst
          (λ (z : Line × Op).
          Allows (ShowsRun c.args.table.now.key) c.args.table.now.table_id.slots c.args.seat.now.id
          c.args.seat.now.me (control_place l.entry) (λ k. k)
          (LinePlay (LineLookTells z.0 z.1)
          (step c.args.table.now.table_id.slots (control_place l.entry) 0 0 none)
          c.args.seat.now.me)) (λ i. (sym c.requires.cached i, sym c.requires.said i))
          (known_allowed c.args.table.now.key c.args.table.now.table_id.slots c.args.seat.now.id
          c.args.seat.now.me l c.args.op.now c.requires.acting inside c.requires.seen
          c.requires.idle c.requires.op),
    )

pub returns-clause-told : goal.returns-clause-told
returns-clause-told g c =
    subst
    (λ (z : Line × Op).
    LineLookTells z.0 z.1 c.args.seat.now.me.0 c.load.result c.load.new.seat.me.0)
    (λ i. (c.requires.cached i, c.requires.said i)) c.load.ensures.2.0
