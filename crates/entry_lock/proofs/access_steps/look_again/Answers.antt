use Rattle.std.proofs.Common.{arith, subst, sym}
use Rattle.lock_core.specs.declared.doing.Doing.{Doing}
use mathlib.Core.Option.{none}
use Rattle.atomic_table.specs.Table.{step, Allows}
use Rattle.entry_lock.specs.Layout.{control_place}
use Rattle.entry_lock.specs.Rule.{ShowsRun}
use Rattle.entry_lock.specs.AccessSteps.{SecondLookTells}
use Rattle.entry_lock.specs.Plays.{DecidingPlay}
use Rattle.entry_lock.proofs.AllowedSteps.{again_allowed}
use Rattle.entry_lock.proofs.access_steps.look_again.Goals as goal

pub load-requires : goal.load-requires
load-requires g c =
    let t = c.requires.table in
    let words = t.words in
    let inside = c.requires.entry in
    let d = c.args.doing.now in (
      t.same,
      (omega arith),
      subst
          (λ (z : Doing).
          Allows (ShowsRun c.args.table.now.key) c.args.table.now.table_id.slots c.args.seat.now.id
          c.args.seat.now.me (control_place d.entry) (λ k. k)
          (DecidingPlay SecondLookTells z
          (step c.args.table.now.table_id.slots (control_place d.entry) 0 0 none)
          c.args.seat.now.me)) (sym c.requires.said)
          (again_allowed c.args.table.now.key c.args.table.now.table_id.slots c.args.seat.now.id
          c.args.seat.now.me c.requires.acting d inside c.requires.looked c.requires.read
          c.requires.may),
    )

pub returns-clause-told : goal.returns-clause-told
returns-clause-told g c =
    subst (λ (z : Doing). SecondLookTells z c.args.seat.now.me.0 c.load.result c.load.new.seat.me.0)
    c.requires.said c.load.ensures.2.0
