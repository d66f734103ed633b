-- One step of a trial of one operation on entries that stand one after the other.
use Rattle.std.proofs.Common.{◌≡◌, ℕ, suc, ◌+◌, ◌-◌, ◌<◌, ◌≤◌, [], ◌∷◌, Bool, true, false, List, arith, subst, sym, ap, ◌∙◌, refl}
use Rattle.entry_model.specs.declared.operation.Op.{Op}
use Rattle.entry_model.specs.declared.operation.Answer.{Answer}
use Rattle.entry_model.specs.declared.receipt.Receipt.{Receipt}
use Rattle.entry_model.specs.Receipt.{IsReceiptOf}
use Rattle.entry_model.specs.Trial.{IsTrial, call}
use Rattle.entry_model.proofs.TrialSteps.{calls_from}

-- The rest of the entries begins with this one.
calls_step :
    (op : Op) (first i count : ℕ)
    → i < count
    → calls_from op (first + i) (count - i)
    ≡ call op (first + i) ∷ calls_from op (first + (i + 1)) (count - (i + 1))
calls_step op first i count h =
    let one : count - i ≡ suc (count - (i + 1)) = omega arith in
    let next : (first + i) + 1 ≡ first + (i + 1) = omega arith in
    ap (calls_from op (first + i)) one
    ∙ ap (λ k. call op (first + i) ∷ calls_from op k (count - (i + 1))) next

pub trial_ends :
    (goes : Answer → Bool) (op : Op) (first i count : ℕ) (r : Receipt)
    → i < count
    → IsReceiptOf (first + i) op r
    → goes r.answer ≡ false
    → IsTrial goes (calls_from op (first + i) (count - i)) (r ∷ [])
trial_ends goes op first i count r h of ends =
    subst (λ cs. IsTrial goes cs (r ∷ [])) (sym (calls_step op first i count h)) (of, rw ends refl)

pub trial_goes :
    (goes : Answer → Bool) (op : Op) (first i count : ℕ) (r : Receipt) (rs : List Receipt)
    → i < count
    → IsReceiptOf (first + i) op r
    → goes r.answer ≡ true
    → IsTrial goes (calls_from op (first + (i + 1)) (count - (i + 1))) rs
    → IsTrial goes (calls_from op (first + i) (count - i)) (r ∷ rs)
trial_goes goes op first i count r rs h of on rest =
    subst (λ cs. IsTrial goes cs (r ∷ rs)) (sym (calls_step op first i count h)) (of, rw on rest)

pub trial_none :
    (goes : Answer → Bool) (op : Op) (first i count : ℕ)
    → count ≤ i
    → IsTrial goes (calls_from op (first + i) (count - i)) []
trial_none goes op first i count h = let none :
    count - i ≡ 0 =
    omega arith in subst (λ n. IsTrial goes (calls_from op (first + i) n) []) (sym none) tt
