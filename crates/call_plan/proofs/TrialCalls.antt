-- The calls of a trial that fits a table, and how many receipts they have.
use Rattle.std.proofs.Common.{◌≡◌, ℕ, ◌≤◌, List, [], ◌∷◌, Bool, true, false, length, arith, ap, ◌⊎◌, inl, inr}
use Rattle.std.proofs.lemmas.Bool.{cases_Bool}
use Rattle.entry_model.specs.declared.operation.Answer
use Rattle.entry_model.specs.declared.receipt.Receipt.{Receipt}
use Rattle.entry_model.specs.Trial.{Call, IsTrial}
use Rattle.entry_model.specs.Calls.{AreCallsIn}
use Rattle.entry_model.proofs.CallRows.{row_in, row_length}
use Rattle.call_plan.specs.declared.plan.Trial.{Trial}
use Rattle.call_plan.specs.declared.plan.Told.{Told}
use Rattle.call_plan.specs.declared.plan.Told.TheVariants.{Entered, Answer, Contents}
use Rattle.call_plan.specs.Plans.{plan_of_trial, most_of, IsTrialIn}

at_most : (told : Told) → most_of told ≤ 8
at_most Entered = omega arith
at_most (Answer shown) = omega arith
at_most Contents = omega arith

pub trial_in :
    (order : ℕ) (t : Trial) → IsTrialIn order t → AreCallsIn order (plan_of_trial t).calls
trial_in order t fits =
    row_in order t.op t.first t.count fits.in_table fits.normal
    (omega (arith, fits.few, at_most t.told))

-- A trial makes at most its calls.
pub few_of :
    (goes : Answer.Answer → Bool) (cs : List Call) (rs : List Receipt)
    → IsTrial goes cs rs
    → length rs ≤ length cs
few_of goes [] [] trial = omega arith
few_of goes [] (r ∷ rs) trial = absurd trial
few_of goes (c ∷ cs) [] trial = omega arith
few_of goes (c ∷ cs) (r ∷ rs) trial = at (cases_Bool (goes r.answer)) (few_of goes cs rs) where
  at :
      (goes r.answer ≡ true) ⊎ (goes r.answer ≡ false)
      → (IsTrial goes cs rs → length rs ≤ length cs)
      → length (r ∷ rs) ≤ length (c ∷ cs)
  at (inl on) rest = omega (arith, rest (rw on at trial.1))
  at (inr off) rest = let none :
      rs ≡ [] = rw off at trial.1 in let short = ap length none in omega (arith, short)

pub trial_few :
    (order : ℕ) (t : Trial) (rs : List Receipt)
    → IsTrialIn order t
    → IsTrial (plan_of_trial t).goes_on (plan_of_trial t).calls rs
    → length rs ≤ most_of t.told
trial_few order t rs fits trial =
    omega (arith, few_of _ _ rs trial, row_length t.op t.first t.count, fits.few)
