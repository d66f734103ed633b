use Rattle.std.proofs.Common.{ℕ, arith, ap, ◌∙◌, subst, sym}
use Rattle.entry_model.specs.Fronts.{IsGone}
use Rattle.entry_lock.proofs.BitsAndFronts.{gone_joined}
use Rattle.atomic_table.specs.Table.{Me}
use Rattle.entry_lock.specs.declared.rule.View.{View}
use Rattle.entry_lock.proofs.SplitsAndJoins.{joins_seats}
use Rattle.entry_lock.proofs.table.Pass.join.Goals as goal

pub join_seat-requires : goal.join_seat-requires
join_seat-requires c =
    let a = c.args.self.now.idle in let b = c.args.other.idle in let t = c.args.table.now.sized in (
      c.requires.table.0,
      c.requires.other_table.0,
      b.bare,
      (let w = t.words in omega arith),
      joins_seats c.args.table.now.table.shared.key c.args.self.now.seat.id c.args.other.seat.id
          c.args.self.now.seat.me.0 c.args.other.seat.me.0 a.acting a.idle b.acting b.idle,
    )

pub returns-clause-gone : goal.returns-clause-gone
returns-clause-gone c =
    λ line h.
    subst (λ f. IsGone f line)
    (sym
    (ap (λ (m : Me ℕ View). m.0.fronts)
    (c.bound_shares.ensures.table.1 ∙ c.join_seat.ensures.2)))
    (gone_joined c.args.self.now.seat.me.0.fronts c.args.other.seat.me.0.fronts line h)
