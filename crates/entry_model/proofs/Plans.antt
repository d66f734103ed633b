-- On states that nobody else changes, a hypervisor call has one reply.
use Rattle.std.proofs.Common.{◌≡◌, ℕ, List, length, refl, ap, ◌∙◌}
use Rattle.entry_model.specs.State.{State}
use Rattle.entry_model.specs.declared.hreply.HReply.{HReply}
use Rattle.entry_model.specs.declared.receipt.Receipt.{Receipt}
use Rattle.entry_model.specs.Run.{IsRun}
use Rattle.entry_model.specs.Trial.{Plan, IsReplyOf, reply_by, plan_run}
use Rattle.entry_model.proofs.Trials.{trial_is, trial_meets, Within}
use Rattle.papr_codes.specs.declared.codes.Rc.{Rc}

-- A reply by its receipts, which were made on these states, is the one that the states give.
pub plan_is :
    (plan : Plan) (a b : List State) (reply : HReply)
    → IsReplyOf plan reply
    → IsRun a reply.receipts b
    → (reply, b) ≡ plan_run plan a
unfolding plan_run
plan_is plan a b reply is run =
    let told : (reply, b) ≡ (reply_by plan reply.receipts, b) = ap
    (λ (z : Rc × List ℕ). (record reply { rc = z.0; words = z.1 }, b)) is.told in
    told
    ∙ ap (λ (z : List Receipt × List State). (reply_by plan z.0, z.1))
    (trial_is plan.goes_on a b plan.calls reply.receipts is.trial run)

-- And the one that the states give is a reply by its receipts, which were made on them.
pub plan_meets :
    (plan : Plan) (a : List State)
    → Within (length a) plan.calls
    → IsReplyOf plan (plan_run plan a).0 × IsRun a (plan_run plan a).0.receipts (plan_run plan a).1
unfolding plan_run
plan_meets plan a within =
    let meets = trial_meets plan.goes_on a plan.calls within in
    (record { trial = meets.0; told = refl }, meets.1)
