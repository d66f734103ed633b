-- Trials that need not have ended: receipts of the first calls of a hypervisor call's plan, in
-- turn.
use Rattle.std.specs.Prelude.{◌≡◌, Bool, true, List, [], ◌∷◌}
use Rattle.entry_model.specs.declared.operation.Answer.{Answer}
use Rattle.entry_model.specs.declared.receipt.Receipt.{Receipt}
use Rattle.entry_model.specs.Receipt.{IsReceiptOf}
use Rattle.entry_model.specs.Trial.{Call, Plan}

-- The receipts are of the first calls, in turn, and after each the trial goes on.
abbrev pub IsBegunTrial : (Answer → Bool) → List Call → List Receipt → Type 0
IsBegunTrial goes cs [] = Unit {0}
IsBegunTrial goes [] (r ∷ rs) = ⊥
IsBegunTrial goes (c ∷ cs) (r ∷ rs) =
    IsReceiptOf c.entry c.op r × ((goes r.answer ≡ true) × IsBegunTrial goes cs rs)

-- A hypervisor call of which these receipts were made, and which isn't at its end by any of them.
abbrev pub IsBegun : Plan → List Receipt → Type 0
IsBegun plan rs = IsBegunTrial plan.goes_on plan.calls rs
