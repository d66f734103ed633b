use Rattle.std.proofs.Common.{◌≡◌, true, refl, subst, sym}
use Rattle.entry_model.specs.State.{State}
use Rattle.entry_model.specs.declared.operation.Answer.{Answer}
use Rattle.entry_model.proofs.Exact.{same}
use Rattle.lock_core.specs.Words.{receipt, noted_state}
use Rattle.entry_lock.specs.LeftStates.{is_left}
use Rattle.entry_lock.proofs.LeftStates.{left_state}
use Rattle.entry_lock.proofs.outcome.outcome_from.Goals as goal

pub differs-changes-requires : goal.differs-changes-requires
differs-changes-requires c = record {
  left = subst (λ (p : Answer × State). is_left p.0 ≡ true → p.1 ≡ c.args.before)
      (sym c.requires.replied) (left_state c.args.before c.args.doing.now.op);
}

pub returns-clause-receipt : goal.returns-clause-receipt
unfolding receipt
returns-clause-receipt c =
    same _ c.args.doing.now.entry (noted_state c.args.doing.now) c.args.doing.now.op refl
    c.requires.before refl
