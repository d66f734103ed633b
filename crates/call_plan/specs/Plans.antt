-- The plan that a `CallPlan` of the code stands for, and when it fits a table of an order.
use Rattle.std.specs.Prelude.{◌≡◌, ℕ, ◌+◌, ◌≤◌, Bool, true, List, map, flat_map}
use Rattle.std.specs.List.{range_with_len}
use Rattle.hpte_fields.specs.TableSize.{entry_count}
use Rattle.papr_codes.specs.declared.codes.Rc.{Rc}
use Rattle.papr_codes.specs.declared.codes.Rc.TheVariants.{Success}
use Rattle.entry_model.specs.declared.operation.Op.{Op}
use Rattle.entry_model.specs.declared.operation.Op.TheVariants.{Read}
use Rattle.entry_model.specs.declared.receipt.Receipt.{Receipt}
use Rattle.entry_model.specs.Receipt.{IsNormal, is_taken}
use Rattle.entry_model.specs.declared.operation.Answer
use Rattle.entry_model.specs.Trial.{Plan, call, plan_of_code}
use Rattle.call_plan.specs.Enter.{enter_told}
use Rattle.call_plan.specs.Single.{told_by, both_words}
use Rattle.call_plan.specs.Bulk.{h_bulk_remove_plan}
use Rattle.call_plan.specs.ShownWords.{words_shown}
use Rattle.call_plan.specs.declared.plan.Told.{Told}
use Rattle.call_plan.specs.declared.plan.Told.TheVariants.{Entered, Answer, Contents}
use Rattle.call_plan.specs.declared.plan.Trial.{Trial}
use Rattle.call_plan.specs.declared.plan.CallPlan.{CallPlan}
use Rattle.call_plan.specs.declared.plan.CallPlan.TheVariants.{Code, Tries, Removes}

-- After which answers the next entry is tried: H_ENTER looks for an entry that is empty.
abbrev pub goes_of : Told → Answer.Answer → Bool
goes_of Entered = is_taken
goes_of other = λ answer. true

-- The code and the words that receipts tell.
abbrev pub told_of : Told → List Receipt → Rc × List ℕ
told_of Entered = enter_told
told_of (Answer shown) = told_by (words_shown shown)
told_of Contents = λ rs. (Success, flat_map both_words rs)

-- The plan of a trial.
abbrev pub plan_of_trial : Trial → Plan
plan_of_trial t = record {
  calls = map (call t.op) (range_with_len t.first t.count);
  goes_on = goes_of t.told;
  told = told_of t.told;
}

-- The plan that a call is.
abbrev pub plan_of : CallPlan → Plan
plan_of (Code rc) = plan_of_code rc
plan_of (Tries trial) = plan_of_trial trial
plan_of (Removes order pairs) = h_bulk_remove_plan order pairs.now

-- How many entries are tried at most.
abbrev pub most_of : Told → ℕ
most_of Entered = 8
most_of (Answer shown) = 1
most_of Contents = 4

-- The doublewords of each entry are returned where entries are read.
abbrev pub IsToldOf : Told → Op → Type 0
IsToldOf Contents op = op ≡ Read
IsToldOf other op = Unit {0}

-- The trial is of entries of a table of this order, of as many as its receipts tell of, and what it
-- enters are stored words.
pub record IsTrialIn (order : ℕ) (t : Trial) : Type 0 where
  pub in_table : t.first + t.count ≤ entry_count order
  pub some : 1 ≤ t.count
  pub few : t.count ≤ most_of t.told
  pub normal : IsNormal t.op
  pub told : IsToldOf t.told t.op

-- The call is one on a table of this order.
abbrev pub Fits : ℕ → CallPlan → Type 0
Fits order (Code rc) = Unit {0}
Fits order (Tries trial) = IsTrialIn order trial
Fits order (Removes named pairs) = named ≡ order
