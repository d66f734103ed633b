use Rattle.std.proofs.Common.{ap, sym, subst}
use Rattle.entry_model.specs.Trial.{Plan}
use Rattle.entry_model.specs.Begun.{IsBegun}
use Rattle.shared_pass.specs.Held.{HeldFits}
use Rattle.shared_pass.specs.Made.{order_of}
use Rattle.shared_pass.proofs.working.Working.attempt.Goals as goal

pub invariant_of-self-in-Err : goal.invariant_of-self-in-Err
invariant_of-self-in-Err c =
    let same = ap order_of (sym c.in-Err.ensures.made.table) in
    record {
      begun = (
        subst (λ order. HeldFits order c.of.result) same (c.of.ensures.fits _ c.requires.fits),
        subst (λ (plan : Plan). IsBegun plan c.try_plan.new.receipts) (sym c.of.ensures.plan)
            c.in-Err.ensures.begun,
      );
    }
