-- Lists of calls of one operation on entries that stand one after the other, and two lists one
-- after the other.
use Rattle.std.proofs.Common.{◌≡◌, ℕ, zero, suc, ◌+◌, ◌<◌, ◌≤◌, List, [], ◌∷◌, ◌++◌, Some, None, length, refl, ap, ◌∙◌, arith}
use Rattle.std.specs.List.{AllByRecursion}
use Rattle.std.proofs.lemmas.List.{length-append}
use Rattle.hpte_fields.specs.TableSize.{entry_count}
use Rattle.entry_model.specs.declared.operation.Op.{Op}
use Rattle.entry_model.specs.Receipt.{IsNormal}
use Rattle.entry_model.specs.Trial.{Call}
use Rattle.entry_model.proofs.TrialSteps.{calls_from}
use Rattle.entry_model.specs.Calls.{call_at, AreCallsIn}
use Rattle.entry_model.proofs.BegunLaws.{at_end}
use Rattle.basics.proofs.Each.{each_append}

-- ---- one operation on entries that stand one after the other
pub row_length : (op : Op) (first count : ℕ) → length (calls_from op first count) ≡ count
row_length op first zero = refl
row_length op first (suc count) = ap suc (row_length op (first + 1) count)

pub row_at :
    (op : Op) (first count i : ℕ)
    → i < count
    → call_at (calls_from op first count) i ≡ Some (first + i, op)
row_at op first zero i inside = absurd (omega (arith, inside))
row_at op first (suc count) zero inside =
    let e : first ≡ first + 0 = omega arith in
    ap (λ n. Some (n, op)) e
row_at op first (suc count) (suc i) inside =
    let e : (first + 1) + i ≡ first + suc i = omega arith in
    row_at op (first + 1) count i (omega (arith, inside)) ∙ ap (λ n. Some (n, op)) e

pub row_end :
    (op : Op) (first count i : ℕ) → count ≤ i → call_at (calls_from op first count) i ≡ None
row_end op first count i past =
    at_end (calls_from op first count) i (omega (arith, row_length op first count, past))

row_in_table :
    (n : ℕ) (op : Op) (first count : ℕ)
    → first + count ≤ n
    → AllByRecursion (λ (c : Call). c.entry < n) (calls_from op first count)
row_in_table n op first zero inside = tt
row_in_table n op first (suc count) inside =
    (omega arith, row_in_table n op (first + 1) count (omega arith))

row_normal :
    (op : Op) (first count : ℕ)
    → IsNormal op
    → AllByRecursion (λ (c : Call). IsNormal c.op) (calls_from op first count)
row_normal op first zero normal = tt
row_normal op first (suc count) normal = (normal, row_normal op (first + 1) count normal)

pub row_in :
    (order : ℕ) (op : Op) (first count : ℕ)
    → first + count ≤ entry_count order
    → IsNormal op
    → count ≤ 16
    → AreCallsIn order (calls_from op first count)
row_in order op first count inside normal few = record {
  in_table = row_in_table (entry_count order) op first count inside;
  normal = row_normal op first count normal;
  few = omega (arith, row_length op first count, few);
}

-- ---- two lists one after the other
pub at_before : (cs ds : List Call) (i : ℕ) → i < length cs → call_at (cs ++ ds) i ≡ call_at cs i
at_before [] ds i inside = absurd (omega (arith, inside))
at_before (c ∷ cs) ds zero inside = refl
at_before (c ∷ cs) ds (suc i) inside = at_before cs ds i (omega (arith, inside))

pub at_behind :
    (cs ds : List Call) (i j : ℕ) → j ≡ length cs + i → call_at (cs ++ ds) j ≡ call_at ds i
at_behind [] ds i j is = let e : j ≡ i = omega (arith, is) in ap (call_at ds) e
at_behind (c ∷ cs) ds i zero is = absurd (omega (arith, is))
at_behind (c ∷ cs) ds i (suc j) is = at_behind cs ds i j (omega (arith, is))

pub both_in :
    (order : ℕ) (cs ds : List Call)
    → AreCallsIn order cs
    → AreCallsIn order ds
    → length cs + length ds ≤ 16
    → AreCallsIn order (cs ++ ds)
both_in order cs ds a b few = record {
  in_table = each_append _ cs ds a.in_table b.in_table;
  normal = each_append _ cs ds a.normal b.normal;
  few = omega (arith, length-append cs ds, few);
}
