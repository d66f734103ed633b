-- The calls on entries that are there enter nothing, and give H_HARDWARE only where an entry was
-- worn.
use Rattle.std.specs.Prelude.{map, ◌≢◌, MatchBool}
use Rattle.std.proofs.Common.{◌≡◌, ℕ, ◌-◌, ◌^◌, ◌≤◌, List, [], ◌∷◌, true, false, ◌⊎◌, inl, inr, nat_lt, arith}
use Rattle.std.specs.List.{AllByRecursion}
use Rattle.std.proofs.lemmas.Bool.{cases_Bool}
use Rattle.papr_codes.specs.FlagBits.{has_flag}
use Rattle.papr_codes.specs.declared.codes.Rc.{Rc}
use Rattle.entry_model.specs.declared.operation.Answer.{Answer}
use Rattle.entry_model.specs.declared.operation.Op.{Op}
use Rattle.entry_model.specs.declared.operation.Test.{Test}
use Rattle.entry_model.specs.declared.receipt.Receipt.{Receipt}
use Rattle.entry_model.specs.Receipt.{is_worn}
use Rattle.entry_model.specs.Trial.{Call, IsTrial, plan_of_code, call}
use Rattle.entry_model.proofs.Heights.{cost, calls_cost}
use Rattle.entry_model.proofs.PlanBounds.{EntersOnly, IsTame, NoneWorn, answered_tame, each_call}
use Rattle.call_plan.specs.declared.bulk.Asked.{Asked}
use Rattle.call_plan.specs.declared.bulk.Asked.TheVariants.{End, Remove, Refused}
use Rattle.call_plan.specs.Single.{single_plan, h_remove_plan, h_protect_plan, h_read_plan, h_clear_ref_plan, h_clear_mod_plan, remove_test, protect_test, both_words, second_word, read_entries, told_by, code_and_words}
use Rattle.call_plan.specs.Bulk.{Pair, pairs_of, asked_by, calls_before, bulk_calls, pair_told, bulk_told, h_bulk_remove_plan}
use Rattle.papr_codes.specs.declared.codes.Rc.TheVariants as rc
use Rattle.entry_model.specs.declared.operation.Answer.TheVariants as answers
use Rattle.entry_model.specs.declared.operation.Op.TheVariants as ops
use Rattle.entry_model.proofs.Trials.{not_worn}

-- ---- one entry
answer_fine :
    (answer : Answer) (words : List ℕ)
    → is_worn answer ≡ false
    → (code_and_words answer words).0 ≢ rc.Hardware
answer_fine answers.Worn words fine = absurd (cc)
answer_fine answers.NotFound words fine = λ e. cc
answer_fine other words fine = λ e. cc

told_fine :
    (words : Receipt → List ℕ) (rs : List Receipt)
    → NoneWorn rs
    → (told_by words rs).0 ≢ rc.Hardware
told_fine words [] fine = λ e. cc
told_fine words (r ∷ rs) fine = answer_fine r.answer (words r) fine.0

pub refused_tame : (W : ℕ → ℕ → Type 0) → IsTame W (plan_of_code rc.Parameter)
refused_tame W = answered_tame W rc.Parameter (λ e. cc)

single_tame :
    (W : ℕ → ℕ → Type 0) (order ptex : ℕ) (op : Op) (words : Receipt → List ℕ)
    → EntersOnly W op
    → cost op ≤ 32
    → IsTame W (single_plan order ptex op words)
single_tame W order ptex op words enters low = at (cases_Bool (nat_lt ptex (2 ^ (order - 4)))) where
  at :
      (nat_lt ptex (2 ^ (order - 4)) ≡ true) ⊎ (nat_lt ptex (2 ^ (order - 4)) ≡ false)
      → IsTame W (single_plan order ptex op words)
  at (inl inside) =
      rw inside
      (record {
        enters = (enters, tt);
        few = omega arith;
        code = λ rs trial fine. told_fine words rs fine;
      })
  at (inr outside) = rw outside (refused_tame W)

pub h_remove_tame :
    (W : ℕ → ℕ → Type 0) (order flags ptex avpn : ℕ)
    → IsTame W (h_remove_plan order flags ptex avpn)
unfolding h_remove_plan
h_remove_tame W order flags ptex avpn =
    single_tame W order ptex (ops.Remove (remove_test flags avpn)) both_words tt (omega arith)

pub h_protect_tame :
    (W : ℕ → ℕ → Type 0) (order flags ptex avpn : ℕ)
    → IsTame W (h_protect_plan order flags ptex avpn)
unfolding h_protect_plan
h_protect_tame W order flags ptex avpn =
    single_tame W order ptex (ops.Protect (protect_test flags avpn) flags) (λ r. []) tt
    (omega arith)

pub h_clear_ref_tame :
    (W : ℕ → ℕ → Type 0) (order ptex : ℕ) → IsTame W (h_clear_ref_plan order ptex)
unfolding h_clear_ref_plan
h_clear_ref_tame W order ptex = single_tame W order ptex ops.ClearRef second_word tt (omega arith)

pub h_clear_mod_tame :
    (W : ℕ → ℕ → Type 0) (order ptex : ℕ) → IsTame W (h_clear_mod_plan order ptex)
unfolding h_clear_mod_plan
h_clear_mod_tame W order ptex = single_tame W order ptex ops.ClearMod second_word tt (omega arith)

-- ---- H_READ
reads_cost : (flags ptex : ℕ) → calls_cost (map (call ops.Read) (read_entries flags ptex)) ≤ 32
reads_cost flags ptex = at (cases_Bool (has_flag flags 0x2000000000)) where
  at :
      (has_flag flags 0x2000000000 ≡ true) ⊎ (has_flag flags 0x2000000000 ≡ false)
      → calls_cost (map (call ops.Read) (read_entries flags ptex)) ≤ 32
  at (inl four) = rw four (omega arith)
  at (inr one) = rw one (omega arith)

pub h_read_tame :
    (W : ℕ → ℕ → Type 0) (order flags ptex : ℕ) → IsTame W (h_read_plan order flags ptex)
unfolding h_read_plan
h_read_tame W order flags ptex = at (cases_Bool (nat_lt ptex (2 ^ (order - 4)))) where
  at :
      (nat_lt ptex (2 ^ (order - 4)) ≡ true) ⊎ (nat_lt ptex (2 ^ (order - 4)) ≡ false)
      → IsTame W (h_read_plan order flags ptex)
  at (inl inside) =
      rw inside
      (record {
        enters = each_call (EntersOnly W) ops.Read (read_entries flags ptex) tt;
        few = reads_cost flags ptex;
        code = λ rs trial fine e. cc;
      })
  at (inr outside) = rw outside (refused_tame W)

-- ---- H_BULK_REMOVE
-- what holds of each removal holds of each call
before_each :
    (Q : Op → Type 0) (asks : Asked) (cs : List Call)
    → ((test : Test) → Q (ops.Remove test))
    → AllByRecursion (λ (c : Call). Q c.op) cs
    → AllByRecursion (λ (c : Call). Q c.op) (calls_before asks cs)
before_each Q End cs q h = tt
before_each Q (Remove entry test) cs q h = (q test, h)
before_each Q Refused cs q h = tt

bulk_each :
    (Q : Op → Type 0) (order : ℕ) (ps : List Pair)
    → ((test : Test) → Q (ops.Remove test))
    → AllByRecursion (λ (c : Call). Q c.op) (bulk_calls order ps)
unfolding bulk_calls
bulk_each Q order [] q = tt
bulk_each Q order (p ∷ ps) q =
    before_each Q (asked_by order p) (bulk_calls order ps) q (bulk_each Q order ps q)

pub h_bulk_remove_each :
    (Q : Op → Type 0) (order : ℕ) (words : List ℕ)
    → ((test : Test) → Q (ops.Remove test))
    → AllByRecursion (λ (c : Call). Q c.op) (h_bulk_remove_plan order words).calls
unfolding h_bulk_remove_plan
h_bulk_remove_each Q order words q = bulk_each Q order (pairs_of words) q

before_cost :
    (asks : Asked) (cs : List Call) → calls_cost cs ≤ 32 → calls_cost (calls_before asks cs) ≤ 32
before_cost End cs h = omega arith
before_cost (Remove entry test) cs h = omega arith
before_cost Refused cs h = omega arith

bulk_cost : (order : ℕ) (ps : List Pair) → calls_cost (bulk_calls order ps) ≤ 32
unfolding bulk_calls
bulk_cost order [] = omega arith
bulk_cost order (p ∷ ps) = before_cost (asked_by order p) (bulk_calls order ps) (bulk_cost order ps)

going :
    (r : Receipt) (cs : List Call) (rs : List Receipt)
    → is_worn r.answer ≡ false
    → MatchBool (not_worn r.answer) (IsTrial not_worn cs rs) (rs ≡ [])
    → IsTrial not_worn cs rs
going r cs rs fine h = rw fine at h

pair_fine :
    (asks : Asked) (p : Pair) (ps : List Pair) (cs : List Call) (rs : List Receipt)
    (rest : List Receipt → Rc × List ℕ)
    → IsTrial not_worn (calls_before asks cs) rs
    → NoneWorn rs
    →
    ((more : List Receipt)
    → IsTrial not_worn cs more
    → NoneWorn more
    → (rest more).0 ≢ rc.Hardware)
    → (pair_told asks p ps rs rest).0 ≢ rc.Hardware
pair_fine End p ps cs rs rest trial fine later = λ e. cc
pair_fine Refused p ps cs rs rest trial fine later = λ e. cc
pair_fine (Remove entry test) p ps cs [] rest trial fine later = absurd trial
pair_fine (Remove entry test) p ps cs (r ∷ rs) rest trial fine later =
    let fine' : is_worn r.answer ≡ false = fine.0 in
    rw fine' (later rs (going r cs rs fine' trial.1) fine.1)

bulk_fine :
    (order : ℕ) (ps : List Pair) (rs : List Receipt)
    → IsTrial not_worn (bulk_calls order ps) rs
    → NoneWorn rs
    → (bulk_told order ps rs).0 ≢ rc.Hardware
unfolding bulk_calls bulk_told
bulk_fine order [] rs trial fine = λ e. cc
bulk_fine order (p ∷ ps) rs trial fine =
    pair_fine (asked_by order p) p ps (bulk_calls order ps) rs (bulk_told order ps) trial fine
    (λ more t f. bulk_fine order ps more t f)

pub h_bulk_remove_tame :
    (W : ℕ → ℕ → Type 0) (order : ℕ) (words : List ℕ) → IsTame W (h_bulk_remove_plan order words)
unfolding h_bulk_remove_plan
h_bulk_remove_tame W order words =
    record {
      enters = bulk_each (EntersOnly W) order (pairs_of words) (λ test. tt);
      few = bulk_cost order (pairs_of words);
      code = λ rs trial fine. bulk_fine order (pairs_of words) rs trial fine;
    }
