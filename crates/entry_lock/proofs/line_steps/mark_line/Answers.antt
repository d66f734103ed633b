use Rattle.std.proofs.Common.{ℕ, ◌==◌, arith, subst, sym}
use mathlib.Core.Option.{none}
use Rattle.atomic_table.specs.Table.{step, Allows}
use Rattle.entry_model.specs.declared.line.Line.{Line}
use Rattle.lock_core.specs.declared.doing.Doing.{Doing}
use Rattle.entry_lock.specs.Layout.{control_place}
use Rattle.entry_lock.specs.Rule.{ShowsRun}
use Rattle.entry_lock.specs.LineSteps.{LineMarkTells}
use Rattle.entry_lock.specs.Plays.{LinePlay}
use Rattle.entry_lock.proofs.AllowedSteps.{known_mark_allowed}
use Rattle.entry_lock.proofs.line_steps.mark_line.Goals as goal
use prog.Atomic.{either}

pub compare_exchange-requires : goal.compare_exchange-requires
compare_exchange-requires g c =
    let t = c.requires.table in
    let words = t.words in
    let inside = c.requires.entry in
    let d = c.args.doing.now in (
      t.same,
      (omega arith),
      subst
          (λ (z : ℕ × Line × Doing).
          Allows (ShowsRun c.args.table.now.key) c.args.table.now.table_id.slots c.args.seat.now.id
          c.args.seat.now.me (control_place d.entry) (λ k. either (k == z.0) c.args.new k)
          (LinePlay (LineMarkTells z.1 z.2)
          (step c.args.table.now.table_id.slots (control_place d.entry) z.0 c.args.new
          none) c.args.seat.now.me))
          (λ i.
          (sym c.word_from-noted.ensures.value i, sym c.requires.cached i, sym c.requires.said i))
          (known_mark_allowed c.args.table.now.key c.args.table.now.table_id.slots
          c.args.seat.now.id c.args.seat.now.me c.requires.acting c.args.known.now d inside
          c.requires.looked c.requires.read c.requires.on c.requires.stamp c.requires.seen
          c.args.new c.requires.may c.requires.new),
    )

pub returns-clause-told : goal.returns-clause-told
returns-clause-told g c =
    subst
    (λ (z : Line × Doing).
    LineMarkTells z.0 z.1 c.args.seat.now.me.0 c.compare_exchange.result
    c.compare_exchange.new.seat.me.0) (λ i. (c.requires.cached i, c.requires.said i))
    c.compare_exchange.ensures.2.0
