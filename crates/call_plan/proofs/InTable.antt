-- The calls of each plan are of entries of the table.
use Rattle.std.specs.Prelude.{map}
use Rattle.std.proofs.Common.{◌≡◌, ℕ, ◌-◌, ◌^◌, ◌<◌, ◌≤◌, List, [], ◌∷◌, true, false, ◌⊎◌, inl, inr, nat_lt, arith, refl}
use Rattle.std.proofs.lemmas.Bool.{cases_Bool, ltb-true}
use Rattle.papr_codes.specs.FlagBits.{has_flag}
use Rattle.entry_model.specs.declared.operation.Op.{Op}
use Rattle.entry_model.specs.declared.operation.Test.{Test}
use Rattle.entry_model.specs.declared.receipt.Receipt.{Receipt}
use Rattle.entry_model.specs.Trial.{Call, call}
use Rattle.entry_model.proofs.Trials.{Within}
use Rattle.call_plan.specs.declared.bulk.Asked.{Asked}
use Rattle.call_plan.specs.declared.bulk.Asked.TheVariants.{End, Remove, Refused}
use Rattle.call_plan.specs.Single.{single_plan, h_remove_plan, h_protect_plan, h_read_plan, h_clear_ref_plan, h_clear_mod_plan, remove_test, protect_test, both_words, second_word, read_entries}
use Rattle.call_plan.specs.Bulk.{Pair, pairs_of, asked_by, calls_before, bulk_calls, h_bulk_remove_plan}
use Rattle.call_plan.proofs.ReadSteps.{fours_in_table}
use Rattle.call_plan.proofs.BulkSteps.{asked_in_table}
use Rattle.entry_model.specs.declared.operation.Op.TheVariants as ops
use Rattle.hpte_fields.specs.TableSize.{least_order}

-- ---- one entry
single_within :
    (order ptex : ℕ) (op : Op) (words : Receipt → List ℕ)
    → Within (2 ^ (order - 4)) (single_plan order ptex op words).calls
single_within order ptex op words = at (cases_Bool (nat_lt ptex (2 ^ (order - 4)))) where
  at :
      (nat_lt ptex (2 ^ (order - 4)) ≡ true) ⊎ (nat_lt ptex (2 ^ (order - 4)) ≡ false)
      → Within (2 ^ (order - 4)) (single_plan order ptex op words).calls
  at (inl inside) = rw inside (ltb-true _ _ inside, tt)
  at (inr outside) = rw outside tt

pub h_remove_within :
    (order flags ptex avpn : ℕ)
    → least_order ≤ order
    → Within (2 ^ (order - 4)) (h_remove_plan order flags ptex avpn).calls
unfolding h_remove_plan
h_remove_within order flags ptex avpn low =
    single_within order ptex (ops.Remove (remove_test flags avpn)) both_words

pub h_protect_within :
    (order flags ptex avpn : ℕ)
    → least_order ≤ order
    → Within (2 ^ (order - 4)) (h_protect_plan order flags ptex avpn).calls
unfolding h_protect_plan
h_protect_within order flags ptex avpn low =
    single_within order ptex (ops.Protect (protect_test flags avpn) flags) (λ r. [])

pub h_clear_ref_within :
    (order ptex : ℕ)
    → least_order ≤ order
    → Within (2 ^ (order - 4)) (h_clear_ref_plan order ptex).calls
unfolding h_clear_ref_plan
h_clear_ref_within order ptex low = single_within order ptex ops.ClearRef second_word

pub h_clear_mod_within :
    (order ptex : ℕ)
    → least_order ≤ order
    → Within (2 ^ (order - 4)) (h_clear_mod_plan order ptex).calls
unfolding h_clear_mod_plan
h_clear_mod_within order ptex low = single_within order ptex ops.ClearMod second_word

-- ---- H_READ
reads_within :
    (order flags ptex : ℕ)
    → least_order ≤ order
    → ptex < 2 ^ (order - 4)
    → Within (2 ^ (order - 4)) (map (call ops.Read) (read_entries flags ptex))
reads_within order flags ptex low inside = at (cases_Bool (has_flag flags 0x2000000000)) where
  at :
      (has_flag flags 0x2000000000 ≡ true) ⊎ (has_flag flags 0x2000000000 ≡ false)
      → Within (2 ^ (order - 4)) (map (call ops.Read) (read_entries flags ptex))
  at (inl four) =
      let last = fours_in_table order ptex low inside in
      rw four (omega arith, (omega arith, (omega arith, (omega arith, tt))))
  at (inr one) = rw one (inside, tt)

pub h_read_within :
    (order flags ptex : ℕ)
    → least_order ≤ order
    → Within (2 ^ (order - 4)) (h_read_plan order flags ptex).calls
unfolding h_read_plan
h_read_within order flags ptex low = at (cases_Bool (nat_lt ptex (2 ^ (order - 4)))) where
  at :
      (nat_lt ptex (2 ^ (order - 4)) ≡ true) ⊎ (nat_lt ptex (2 ^ (order - 4)) ≡ false)
      → Within (2 ^ (order - 4)) (h_read_plan order flags ptex).calls
  at (inl inside) = rw inside (reads_within order flags ptex low (ltb-true _ _ inside))
  at (inr outside) = rw outside tt

-- ---- H_BULK_REMOVE
before_within :
    (n : ℕ) (asks : Asked) (rest : List Call)
    → ((entry : ℕ) (test : Test) → asks ≡ Remove entry test → entry < n)
    → Within n rest
    → Within n (calls_before asks rest)
before_within n End rest inside h = tt
before_within n (Remove entry test) rest inside h = (inside entry test refl, h)
before_within n Refused rest inside h = tt

bulk_within : (order : ℕ) (ps : List Pair) → Within (2 ^ (order - 4)) (bulk_calls order ps)
unfolding bulk_calls
bulk_within order [] = tt
bulk_within order (p ∷ ps) =
    before_within (2 ^ (order - 4)) (asked_by order p) (bulk_calls order ps)
    (asked_in_table order p) (bulk_within order ps)

pub h_bulk_remove_within :
    (order : ℕ) (pairs : List ℕ)
    → least_order ≤ order
    → Within (2 ^ (order - 4)) (h_bulk_remove_plan order pairs).calls
unfolding h_bulk_remove_plan
h_bulk_remove_within order pairs low = bulk_within order (pairs_of pairs)
