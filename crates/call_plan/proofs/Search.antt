-- The search for an entry that isn't taken, and the entries of a table.
use Rattle.std.proofs.Common.{◌≡◌, ℕ, inl, inr, ◌+◌, ◌-◌, ◌*◌, ◌^◌, ◌≤◌, List, [], ◌∷◌, true, false, arith, ap, ◌∙◌, refl, pow-add, ◌⊎◌}
use Rattle.std.proofs.lemmas.Bool.{cases_Bool}
use Rattle.entry_model.specs.declared.receipt.Receipt.{Receipt}
use Rattle.entry_model.specs.Receipt.{is_taken}
use Rattle.entry_model.specs.Trial.{ending_of}
use Rattle.call_plan.specs.Enter.{enter_told, told_by_ending}
use Rattle.hpte_fields.specs.TableSize.{least_order}

-- A table is whole groups of eight entries.
pub groups_of_eight : (k : ℕ) → least_order ≤ k → 2 ^ (k - 4) ≡ 2 ^ (k - 7) * 8
groups_of_eight k low = let e :
    k - 4 ≡ (k - 7) + 3 = omega arith in ap (λ n. 2 ^ n) e ∙ pow-add 2 (k - 7) 3

-- The code and the words are those of the receipt that ended the search.
pub told_is : (rs : List Receipt) → told_by_ending (ending_of is_taken rs) ≡ enter_told rs
told_is [] = refl
told_is (r ∷ rs) = at (told_is rs) (cases_Bool (is_taken r.answer)) where
  at :
      told_by_ending (ending_of is_taken rs) ≡ enter_told rs
      → (is_taken r.answer ≡ true) ⊎ (is_taken r.answer ≡ false)
      → told_by_ending (ending_of is_taken (r ∷ rs)) ≡ enter_told (r ∷ rs)
  at rest (inl taken) = rw taken rest
  at rest (inr free) = rw free refl
