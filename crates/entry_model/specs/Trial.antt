-- Trials: the calls on entries that a hypervisor call names, made in turn as long as the answers go
-- on. Their receipts give the reply.
use Rattle.std.specs.Prelude.{◌≡◌, ℕ, List, [], ◌∷◌, Bool, true, if◌then◌else◌, MatchBool, Option, not, find, drop, length}
use Rattle.entry_model.specs.State.{State}
use Rattle.entry_model.specs.declared.operation.Op.{Op}
use Rattle.entry_model.specs.declared.operation.Answer.{Answer}
use Rattle.entry_model.specs.declared.receipt.Receipt.{Receipt}
use Rattle.entry_model.specs.declared.hreply.HReply.{HReply}
use Rattle.entry_model.specs.Receipt.{IsReceiptOf, receipt_of}
use Rattle.entry_model.specs.Run.{state_at, states_after}
use Rattle.papr_codes.specs.declared.codes.Rc.{Rc}

-- An operation and the entry that it is made on.
pub record Call : Type 0 where
  pub entry : ℕ
  pub op : Op

-- An operation on an entry.
abbrev pub call : Op → ℕ → Call
call op e = record { entry = e; op = op }

-- Each operation was made on its entry, in turn, as long as the answers go on.
abbrev pub IsTrial : (Answer → Bool) → List Call → List Receipt → Type 0
IsTrial goes [] [] = Unit {0}
IsTrial goes [] (r ∷ rs) = ⊥
IsTrial goes (c ∷ cs) [] = ⊥
IsTrial goes (c ∷ cs) (r ∷ rs) =
    IsReceiptOf c.entry c.op r × MatchBool (goes r.answer) (IsTrial goes cs rs) (rs ≡ [])

-- The receipt that ended a trial: the first after which it doesn't go on.
abbrev pub ending_of : (Answer → Bool) → List Receipt → Option Receipt
ending_of goes rs = find (λ (r : Receipt). not (goes r.answer)) rs

-- The receipts after those that were there before.
abbrev pub receipts_added : List Receipt → List Receipt → List Receipt
receipts_added old new = drop (length old) new

-- ---- on a list of states that nobody else changes
-- The receipt of a call.
abbrev pub receipt_at : List State → Call → Receipt
receipt_at states c = receipt_of c.entry (state_at states c.entry) c.op

-- The receipts of a trial, and the states after it.
unfoldable pub trial_run : (Answer → Bool) → List State → List Call → List Receipt × List State
trial_run goes states [] = ([], states)
trial_run goes states (c ∷ cs) =
    let r = receipt_at states c in
    let rest = trial_run goes (states_after states r) cs in
    if goes r.answer then (r ∷ rest.0, rest.1) else (r ∷ [], states_after states r)

-- ---- hypervisor calls
-- What a hypervisor call with its arguments is: the calls on entries that it names, after which
-- answers the next of them is made, and the code and the words that their receipts give.
pub record Plan : Type 0 where
  pub calls : List Call
  pub goes_on : Answer → Bool
  pub told : List Receipt → Rc × List ℕ

-- The reply of a hypervisor call by its receipts.
pub record IsReplyOf (plan : Plan) (reply : HReply) : Type 0 where
  pub trial : IsTrial plan.goes_on plan.calls reply.receipts
  pub told : (reply.rc, reply.words) ≡ plan.told reply.receipts

-- The reply that these receipts give.
abbrev pub reply_by : Plan → List Receipt → HReply
reply_by plan rs = record { rc = (plan.told rs).0; words = (plan.told rs).1; receipts = rs }

-- The reply on a list of states that nobody else changes, and the states after it.
unfoldable pub plan_run : Plan → List State → HReply × List State
plan_run plan states = (
  reply_by plan (trial_run plan.goes_on states plan.calls).0,
  (trial_run plan.goes_on states plan.calls).1,
)

-- A call that is answered by itself names no entry.
abbrev pub plan_of_code : Rc → Plan
plan_of_code rc = record { calls = []; goes_on = λ answer. true; told = λ rs. (rc, []) }
