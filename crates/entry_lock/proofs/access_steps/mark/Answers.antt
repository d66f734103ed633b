use Rattle.std.proofs.Common.{ℕ, ◌==◌, arith, subst, sym}
use Rattle.lock_core.specs.declared.doing.Doing.{Doing}
use mathlib.Core.Option.{none}
use Rattle.atomic_table.specs.Table.{step, Allows}
use Rattle.entry_lock.specs.Layout.{control_place}
use Rattle.entry_lock.specs.Rule.{ShowsRun}
use Rattle.entry_lock.specs.AccessSteps.{MarkTells}
use Rattle.entry_lock.specs.Plays.{DecidingPlay}
use Rattle.entry_lock.proofs.AllowedSteps.{mark_allowed}
use Rattle.entry_lock.proofs.access_steps.mark.Goals as goal
use prog.Atomic.{either}

pub compare_exchange-requires : goal.compare_exchange-requires
compare_exchange-requires g c =
    let t = c.requires.table in
    let words = t.words in
    let inside = c.requires.entry in
    let d = c.args.doing.now in (
      t.same,
      (omega arith),
      subst
          (λ (z : ℕ × Doing).
          Allows (ShowsRun c.args.table.now.key) c.args.table.now.table_id.slots c.args.seat.now.id
          c.args.seat.now.me (control_place d.entry) (λ k. either (k == z.0) c.args.new k)
          (DecidingPlay MarkTells z.1
          (step c.args.table.now.table_id.slots (control_place d.entry) z.0 c.args.new
          none) c.args.seat.now.me))
          (λ i. (sym c.word_from-noted.ensures.value i, sym c.requires.said i))
          (mark_allowed c.args.table.now.key c.args.table.now.table_id.slots c.args.seat.now.id
          c.args.seat.now.me c.requires.acting d inside c.requires.looked c.requires.read
          c.args.new c.requires.may c.requires.new),
    )

pub returns-clause-told : goal.returns-clause-told
returns-clause-told g c =
    subst
    (λ (z : Doing).
    MarkTells z c.args.seat.now.me.0 c.compare_exchange.result
    c.compare_exchange.new.seat.me.0) c.requires.said c.compare_exchange.ensures.2.0
