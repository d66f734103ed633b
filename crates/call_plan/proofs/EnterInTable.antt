-- The calls of H_ENTER are of entries of the table.
use Rattle.std.specs.Prelude.{map}
use Rattle.std.proofs.Common.{◌≡◌, ℕ, zero, suc, ◌+◌, ◌-◌, ◌*◌, ◌/◌, ◌^◌, ◌<◌, ◌≤◌, List, true, false, Option, Some, None, ◌⊎◌, inl, inr, nat_lt, arith}
use Rattle.std.proofs.lemmas.Bool.{cases_Bool, ltb-true}
use Rattle.papr_codes.specs.FlagBits.{has_flag}
use Rattle.frame_grants.specs.declared.grant.Grant.{Grant}
use Rattle.entry_model.specs.declared.operation.Op.{Op}
use Rattle.entry_model.specs.declared.operation.Op.TheVariants.{Enter}
use Rattle.entry_model.specs.Trial.{call}
use Rattle.entry_model.proofs.Trials.{Within}
use Rattle.call_plan.specs.Enter.{candidates}
use Rattle.page_grants.specs.Suited.{entered_words}
use Rattle.call_plan.specs.Checks.{h_enter_plan, words_plan}
use Rattle.entry_model.proofs.TrialSteps.{calls_from}
use Rattle.call_plan.proofs.Search.{groups_of_eight}
use Rattle.hpte_fields.specs.TableSize.{least_order}

pub trials_within :
    (n : ℕ) (op : Op) (first count : ℕ) → first + count ≤ n → Within n (calls_from op first count)
trials_within n op first zero h = tt
trials_within n op first (suc count) h =
    (omega arith, trials_within n op (first + 1) count (omega arith))

candidates_within :
    (order : ℕ) (op : Op) (flags ptex : ℕ)
    → least_order ≤ order
    → ptex < 2 ^ (order - 4)
    → Within (2 ^ (order - 4)) (map (call op) (candidates flags ptex))
unfolding candidates
candidates_within order op flags ptex low inside =
    at (cases_Bool (has_flag flags 0x8000000000)) where
      at :
          (has_flag flags 0x8000000000 ≡ true) ⊎ (has_flag flags 0x8000000000 ≡ false)
          → Within (2 ^ (order - 4)) (map (call op) (candidates flags ptex))
      at (inl exact) = rw exact (trials_within _ op ptex 1 (omega arith))
      at (inr group) =
          let whole = groups_of_eight order low in
          rw group (trials_within _ op (ptex / 8 * 8) 8 (omega arith))

words_within :
    (order flags ptex : ℕ) (words : Option (ℕ × ℕ))
    → least_order ≤ order
    → ptex < 2 ^ (order - 4)
    → Within (2 ^ (order - 4)) (words_plan flags ptex words).calls
words_within order flags ptex None low inside = tt
words_within order flags ptex (Some w) low inside =
    candidates_within order (Enter w.0 w.1) flags ptex low inside

pub h_enter_within :
    (order : ℕ) (grants : List Grant) (flags ptex pteh ptel : ℕ)
    → least_order ≤ order
    → Within (2 ^ (order - 4)) (h_enter_plan order grants flags ptex pteh ptel).calls
unfolding h_enter_plan
h_enter_within order grants flags ptex pteh ptel low =
    at (cases_Bool (nat_lt ptex (2 ^ (order - 4)))) where
      at :
          (nat_lt ptex (2 ^ (order - 4)) ≡ true) ⊎ (nat_lt ptex (2 ^ (order - 4)) ≡ false)
          → Within (2 ^ (order - 4)) (h_enter_plan order grants flags ptex pteh ptel).calls
      at (inl inside) =
          rw inside
          (words_within order flags ptex (entered_words grants pteh ptel) low (ltb-true _ _ inside))
      at (inr outside) = rw outside tt
