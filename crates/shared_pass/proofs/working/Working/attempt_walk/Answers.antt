use Rattle.std.proofs.Common.{ap, sym, subst, ◌∙◌}
use Rattle.entry_model.specs.Receipt.{is_no_match}
use Rattle.entry_model.specs.Begun.{IsBegunTrial}
use Rattle.entry_model.specs.Calls.{AreCallsIn}
use Rattle.hpt_walk.specs.PageCalls.{calls_of}
use Rattle.shared_pass.specs.Made.{order_of}
use Rattle.shared_pass.specs.Walks.{calls_of_walk}
use Rattle.shared_pass.proofs.working.Working.attempt_walk.Goals as goal

pub try_calls-requires-clause-fits : goal.try_calls-requires-clause-fits
try_calls-requires-clause-fits c =
    subst (λ order. AreCallsIn order (calls_of c.calls-calls.result)) c.order.ensures.value
    c.calls-calls.ensures.fits

pub try_calls-requires-clause-begun : goal.try_calls-requires-clause-begun
try_calls-requires-clause-begun c =
    let calls = c.calls-calls.ensures.calls ∙ ap (λ order. calls_of_walk order c.args.walk.now)
    c.order.ensures.value in
    subst (λ cs. IsBegunTrial is_no_match cs c.args.self.now.receipts) (sym calls) c.requires

pub invariant_of-self-in-Err : goal.invariant_of-self-in-Err
invariant_of-self-in-Err c =
    let same = ap order_of (sym c.in-Err.ensures.made.table) in
    let calls = c.calls-calls.ensures.calls ∙ ap (λ order. calls_of_walk order c.args.walk.now)
    (c.order.ensures.value ∙ same) in
    record {
      begun =
          subst (λ cs. IsBegunTrial is_no_match cs c.try_calls.new.receipts) calls
          c.in-Err.ensures.begun;
    }
