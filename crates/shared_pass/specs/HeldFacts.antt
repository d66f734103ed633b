-- That a pass's receipts fit what is pending has one proof at most, so that a struct can state it.
use base.Stored.{Coded-set}
use Rattle.std.proofs.Props.{props}
use Rattle.std.specs.Prelude.{◌≡◌, ℕ, Bool, List, [], ◌∷◌}
use Rattle.entry_model.specs.declared.operation.Answer.{Answer}
use Rattle.entry_model.specs.declared.operation.Op.{Op}
use Rattle.entry_model.specs.declared.operation.Op.TheVariants.{Enter, Remove, Protect, Read, ClearRef, ClearMod, Access}
use Rattle.entry_model.specs.contracts.operation.Op.{the_row}
use Rattle.entry_model.specs.declared.receipt.Receipt.{Receipt}
use Rattle.entry_model.specs.Receipt.{IsNormal, IsReceiptOf}
use Rattle.entry_model.specs.Trial.{Call}
use Rattle.entry_model.specs.Begun.{IsBegunTrial}
use Rattle.call_plan.specs.declared.plan.Told.{Told}
use Rattle.call_plan.specs.declared.plan.Told.TheVariants.{Entered, Answer as Shown, Contents}
use Rattle.call_plan.specs.declared.plan.Trial.{Trial}
use Rattle.call_plan.specs.Plans.{IsToldOf, IsTrialIn}
use Rattle.shared_pass.specs.declared.held.HeldCall.{HeldCall}
use Rattle.shared_pass.specs.declared.held.HeldCall.TheVariants.{Tries, Removes}
use Rattle.shared_pass.specs.declared.held.Pending.{Pending}
use Rattle.shared_pass.specs.declared.held.Pending.TheVariants as pending
use Rattle.shared_pass.specs.Held.{HeldFits, IsHeldBy}

Op_set : (a b : Op) → IsProp (a ≡ b)
Op_set = Coded-set the_row.coded

of_prop : (entry : ℕ) (op : Op) (r : Receipt) → IsProp (IsReceiptOf entry op r)
of_prop entry op r = Prim.hlevel (props, Op_set)

begun_prop :
    (goes : Answer → Bool) (cs : List Call) (rs : List Receipt)
    → IsProp (IsBegunTrial goes cs rs)
begun_prop goes cs [] = Prim.hlevel props
begun_prop goes [] (r ∷ rs) = Prim.hlevel props
begun_prop goes (c ∷ cs) (r ∷ rs) =
    Prim.hlevel (props, of_prop c.entry c.op r, begun_prop goes cs rs)

normal_prop : (op : Op) → IsProp (IsNormal op)
normal_prop (Enter a b) = Prim.hlevel props
normal_prop (Remove test) = Prim.hlevel props
normal_prop (Protect flags avpn) = Prim.hlevel props
normal_prop Read = Prim.hlevel props
normal_prop ClearRef = Prim.hlevel props
normal_prop ClearMod = Prim.hlevel props
normal_prop (Access a b c d e f) = Prim.hlevel props

told_prop : (told : Told) (op : Op) → IsProp (IsToldOf told op)
told_prop Contents op = Prim.hlevel (props, Op_set)
told_prop Entered op = Prim.hlevel props
told_prop (Shown shown) op = Prim.hlevel props

trial_prop : (order : ℕ) (t : Trial) → IsProp (IsTrialIn order t)
trial_prop order t = Prim.hlevel (props, normal_prop, told_prop)

fits_prop : (order : ℕ) (call : HeldCall) → IsProp (HeldFits order call)
fits_prop order (Tries trial) = trial_prop order trial
fits_prop order (Removes named pairs) = Prim.hlevel props

-- What is pending, and its receipts, fit in one way at most.
pub held_prop : (order : ℕ) (p : Pending) (rs : List Receipt) → IsProp (IsHeldBy order p rs)
held_prop order pending.Nothing rs = Prim.hlevel props
held_prop order (pending.Call call) rs = Prim.hlevel (props, fits_prop, begun_prop)
held_prop order (pending.Walk walk) rs = Prim.hlevel (props, begun_prop)
