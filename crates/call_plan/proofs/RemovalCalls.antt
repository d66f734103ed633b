-- The removals of a bulk removal as a list of calls.
use Rattle.std.proofs.Common.{◌≡◌, ℕ, zero, suc, ◌*◌, ◌<◌, ◌≤◌, List, [], ◌∷◌, Option, Some, None, length, drop, refl, ap, sym, ◌∙◌, arith}
use Rattle.std.specs.List.{AllByRecursion}
use Rattle.std.proofs.lemmas.List.{drop_all}
use Rattle.entry_model.specs.declared.operation.Op.{Op}
use Rattle.entry_model.specs.Receipt.{IsNormal}
use Rattle.entry_model.specs.Trial.{Call}
use Rattle.entry_model.specs.Calls.{call_at, AreCallsIn}
use Rattle.call_plan.specs.declared.bulk.Asked.{Asked}
use Rattle.call_plan.specs.declared.bulk.Asked.TheVariants.{End, Remove, Refused}
use Rattle.call_plan.specs.Bulk.{Pair, pairs_of, asked_by, calls_before, bulk_calls, h_bulk_remove_plan}
use Rattle.call_plan.proofs.BulkSteps.{asked_at, first_pair}
use Rattle.call_plan.proofs.InTable.{h_bulk_remove_within}
use Rattle.entry_model.specs.declared.operation.Op.TheVariants as ops
use Rattle.hpte_fields.specs.TableSize.{least_order}

-- ---- the call of a pair
-- What a pair asks as a call, if it asks for one.
abbrev pub call_asked : Asked → Option (ℕ × Op)
call_asked End = None
call_asked (Remove entry test) = Some (entry, ops.Remove test)
call_asked Refused = None

abbrev first_asked : ℕ → List Pair → Option (ℕ × Op)
first_asked order [] = None
first_asked order (p ∷ ps) = call_asked (asked_by order p)

first_at : (asks : Asked) (rest : List Call) → call_at (calls_before asks rest) 0 ≡ call_asked asks
first_at End rest = refl
first_at (Remove entry test) rest = refl
first_at Refused rest = refl

later_at :
    (asks : Asked) (rest : List Call) (i : ℕ) (x : Option (ℕ × Op))
    → suc i ≤ length (calls_before asks rest)
    → (i ≤ length rest → call_at rest i ≡ x)
    → call_at (calls_before asks rest) (suc i) ≡ x
later_at End rest i x inside is = absurd (omega (arith, inside))
later_at (Remove entry test) rest i x inside is = is (omega (arith, inside))
later_at Refused rest i x inside is = absurd (omega (arith, inside))

removal_at :
    (order : ℕ) (ps : List Pair) (i : ℕ)
    → i ≤ length (bulk_calls order ps)
    → call_at (bulk_calls order ps) i ≡ first_asked order (drop i ps)
unfolding bulk_calls
removal_at order [] zero inside = refl
removal_at order [] (suc i) inside = refl
removal_at order (p ∷ ps) zero inside = first_at (asked_by order p) (bulk_calls order ps)
removal_at order (p ∷ ps) (suc i) inside =
    later_at (asked_by order p) (bulk_calls order ps) i (first_asked order (drop i ps)) inside
    (removal_at order ps i)

drop_pairs : (words : List ℕ) (i : ℕ) → drop i (pairs_of words) ≡ pairs_of (drop (2 * i) words)
drop_pairs words zero = refl
drop_pairs [] (suc i) = ap pairs_of (sym (drop_all (2 * suc i) [] (omega arith)))
drop_pairs (a ∷ []) (suc i) = ap pairs_of (sym (drop_all (2 * suc i) (a ∷ []) (omega arith)))
drop_pairs (a ∷ b ∷ words) (suc i) =
    let two : 2 * suc i ≡ suc (suc (2 * i)) = omega arith in
    drop_pairs words i ∙ ap (λ n. pairs_of (drop n (a ∷ b ∷ words))) (sym two)

-- The call after the first ones is the one that its pair asks for.
pub removals_at :
    (order : ℕ) (words : List ℕ) (i : ℕ)
    → length words ≡ 8
    → i < 4
    → i ≤ length (h_bulk_remove_plan order words).calls
    → call_at (h_bulk_remove_plan order words).calls i ≡ call_asked (asked_at order i words)
unfolding h_bulk_remove_plan
removals_at order words i eight below inside =
    removal_at order (pairs_of words) i inside
    ∙ ap (first_asked order) (drop_pairs words i ∙ ap pairs_of (first_pair i words eight below))

-- ---- how many there are
pub pairs_few : (words : List ℕ) → 2 * length (pairs_of words) ≤ length words
pairs_few [] = omega arith
pairs_few (a ∷ []) = omega arith
pairs_few (a ∷ b ∷ words) = omega (arith, pairs_few words)

before_few : (asks : Asked) (rest : List Call) → length (calls_before asks rest) ≤ suc (length rest)
before_few End rest = omega arith
before_few (Remove entry test) rest = omega arith
before_few Refused rest = omega arith

pub calls_few : (order : ℕ) (ps : List Pair) → length (bulk_calls order ps) ≤ length ps
unfolding bulk_calls
calls_few order [] = omega arith
calls_few order (p ∷ ps) =
    omega (arith, before_few (asked_by order p) (bulk_calls order ps), calls_few order ps)

pub removals_few :
    (order : ℕ) (words : List ℕ)
    → length words ≡ 8
    → length (h_bulk_remove_plan order words).calls ≤ 4
unfolding h_bulk_remove_plan
removals_few order words eight =
    omega (arith, calls_few order (pairs_of words), pairs_few words, eight)

before_normal :
    (asks : Asked) (rest : List Call)
    → AllByRecursion (λ (c : Call). IsNormal c.op) rest
    → AllByRecursion (λ (c : Call). IsNormal c.op) (calls_before asks rest)
before_normal End rest all = tt
before_normal (Remove entry test) rest all = (tt, all)
before_normal Refused rest all = tt

calls_normal :
    (order : ℕ) (ps : List Pair)
    → AllByRecursion (λ (c : Call). IsNormal c.op) (bulk_calls order ps)
unfolding bulk_calls
calls_normal order [] = tt
calls_normal order (p ∷ ps) =
    before_normal (asked_by order p) (bulk_calls order ps) (calls_normal order ps)

pub removals_in :
    (order : ℕ) (words : List ℕ)
    → least_order ≤ order
    → length words ≡ 8
    → AreCallsIn order (h_bulk_remove_plan order words).calls
unfolding h_bulk_remove_plan
removals_in order words low eight = record {
  in_table = h_bulk_remove_within order words low;
  normal = calls_normal order (pairs_of words);
  few = omega (arith, calls_few order (pairs_of words), pairs_few words, eight);
}
