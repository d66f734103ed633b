-- Calls and walks that are held up: the plan of each, and the operations that it has made.
use Rattle.std.specs.Prelude.{◌≡◌, ℕ, Bool, true, false, List}
use Rattle.entry_model.specs.declared.operation.Answer.{Answer}
use Rattle.entry_model.specs.declared.receipt.Receipt.{Receipt}
use Rattle.entry_model.specs.Receipt.{is_no_match}
use Rattle.entry_model.specs.Trial.{Call, Plan}
use Rattle.entry_lock.specs.declared.busy.Busy.{Busy}
use Rattle.call_plan.specs.Bulk.{h_bulk_remove_plan}
use Rattle.entry_model.specs.Begun.{IsBegunTrial}
use Rattle.call_plan.specs.Plans.{plan_of_trial, IsTrialIn}
use Rattle.pass_calls.specs.HeldUp.{IsHeldUpAt}
use Rattle.shared_pass.specs.declared.held.HeldCall.{HeldCall}
use Rattle.shared_pass.specs.declared.held.HeldCall.TheVariants.{Tries, Removes}
use Rattle.shared_pass.specs.declared.held.Pending.{Pending}
use Rattle.shared_pass.specs.declared.held.Pending.TheVariants as pending
use Rattle.shared_pass.specs.declared.walk.PageWalk.{PageWalk}
use Rattle.shared_pass.specs.Walks.{calls_of_walk}

-- The plan of a call.
abbrev pub plan_of_held : HeldCall → Plan
plan_of_held (Tries trial) = plan_of_trial trial
plan_of_held (Removes order pairs) = h_bulk_remove_plan order pairs

-- The call is one on a table of this order.
abbrev pub HeldFits : ℕ → HeldCall → Type 0
HeldFits order (Tries trial) = IsTrialIn order trial
HeldFits order (Removes named pairs) = named ≡ order

-- Nothing is pending.
abbrev pub is_nothing : Pending → Bool
is_nothing pending.Nothing = true
is_nothing other = false

-- These receipts are of the first operations, after each of which it goes on, and the next
-- operation is busy.
pub record IsHeldAt (goes : Answer → Bool) (cs : List Call) (rs : List Receipt) (b : Busy) : Type 0
  where
    pub begun : IsBegunTrial goes cs rs
    pub next : IsHeldUpAt cs rs b

-- A hypervisor call that is held up so.
abbrev pub IsHeldPlan : Plan → List Receipt → Busy → Type 0
IsHeldPlan plan rs b = IsHeldAt plan.goes_on plan.calls rs b

-- A walk that is held up so.
abbrev pub IsHeldWalk : ℕ → PageWalk → List Receipt → Busy → Type 0
IsHeldWalk order w rs b = IsHeldAt is_no_match (calls_of_walk order w) rs b

-- What is pending is one on a table of this order, and these receipts are of its first operations.
abbrev pub IsHeldBy : ℕ → Pending → List Receipt → Type 0
IsHeldBy order pending.Nothing rs = Unit {0}
IsHeldBy order (pending.Call call) rs =
    HeldFits order call × IsBegunTrial (plan_of_held call).goes_on (plan_of_held call).calls rs
IsHeldBy order (pending.Walk walk) rs =
    IsBegunTrial is_no_match (calls_of_walk order walk) rs
