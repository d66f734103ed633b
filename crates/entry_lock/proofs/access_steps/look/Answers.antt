use Rattle.std.proofs.Common.{arith, refl, subst, ap, ◌∙◌}
use Rattle.entry_model.specs.Receipt.{is_access}
use Rattle.entry_lock.specs.AccessSteps.{LookTells}
use Rattle.entry_lock.proofs.AllowedSteps.{look_allowed}
use Rattle.entry_lock.proofs.access_steps.look.Goals as goal

pub load-requires : goal.load-requires
load-requires g c =
    let t = c.requires.table in let words = t.words in let inside = c.requires.entry in (
      t.same,
      (omega arith),
      look_allowed c.args.table.now.key c.args.table.now.table_id.slots c.args.seat.now.id
          c.args.seat.now.me c.args.entry g.W.ForOperation.op c.requires.acting inside
          c.requires.idle (ap is_access c.requires.said ∙ c.requires.op),
    )

pub returns-clause-told : goal.returns-clause-told
returns-clause-told g c =
    subst (λ o. LookTells o c.args.entry c.args.seat.now.me.0 c.load.result c.load.new.seat.me.0)
    c.requires.said (c.load.ensures.2.0 c.args.entry refl)
