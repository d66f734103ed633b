-- What a pass keeps where a call or a walk is held up.
use Rattle.std.specs.Prelude.{◌≡◌, ℕ}
use Rattle.entry_model.specs.Trial.{Plan}
use Rattle.entry_lock.specs.declared.busy.Busy.{Busy}
use Rattle.shared_pass.specs.declared.held.HeldCall.{HeldCall}
use Rattle.shared_pass.specs.declared.held.Pending.TheVariants.{Call, Walk}
use Rattle.shared_pass.specs.declared.sharer.Sharer.{Sharer}
use Rattle.shared_pass.specs.declared.walk.PageWalk.{PageWalk}
use Rattle.shared_pass.specs.declared.working.Working.{Working}
use Rattle.shared_pass.specs.Held.{plan_of_held, IsHeldPlan, IsHeldWalk}
use Rattle.shared_pass.specs.Made.{ToldBy}

-- The pass x is y after a try. What it has to go on with is this very call. Its receipts are of the
-- call's first operations, and the next one is busy: it keeps the words that the last step of this
-- try found.
pub record KeepsCall (plan : Plan) (x : Sharer) (y : Working) (b : Busy) : Type 0 where
  pub call : HeldCall
  pub pending : y.pending ≡ Call call
  pub plan_is : plan_of_held call ≡ plan
  pub held_up : IsHeldPlan plan y.receipts b
  pub last : ToldBy x y.sharer b.entry b
  pub told : y.busy ≡ b

-- The pass x is y after a try. What it has to go on with is this very walk, on a table of 2 ^ order
-- bytes. Its receipts are of the walk's first operations, and the next one is busy: it keeps the
-- words that the last step of this try found.
pub record KeepsWalk (order : ℕ) (walk : PageWalk) (x : Sharer) (y : Working) (b : Busy) : Type 0
  where
    pub pending : y.pending ≡ Walk walk
    pub held_up : IsHeldWalk order walk y.receipts b
    pub last : ToldBy x y.sharer b.entry b
    pub told : y.busy ≡ b
