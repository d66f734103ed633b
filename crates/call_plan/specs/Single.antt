-- The hypervisor calls on one entry, or on four that are read together: their plans and their
-- replies.
use Rattle.hpte_fields.specs.TableSize.{entry_count}
use Rattle.std.specs.Prelude.{ℕ, ◌*◌, ◌/◌, List, [], ◌∷◌, true, Option, Some, None, if◌then◌else◌, nat_lt, map, flat_map}
use Rattle.std.specs.List.{range_with_len}
use Rattle.papr_codes.specs.FlagBits.{has_flag, h_read_4, h_avpn, h_andcond}
use Rattle.papr_codes.specs.declared.codes.Rc.{Rc}
use Rattle.entry_model.specs.declared.operation.Op.{Op}
use Rattle.entry_model.specs.declared.operation.Op.TheVariants.{Remove, Protect, Read, ClearRef, ClearMod}
use Rattle.entry_model.specs.declared.operation.Test.{Test}
use Rattle.entry_model.specs.declared.operation.Answer.{Answer}
use Rattle.entry_model.specs.declared.operation.Answer.TheVariants.{NotFound, Worn}
use Rattle.entry_model.specs.declared.receipt.Receipt.{Receipt}
use Rattle.entry_model.specs.Reply.{words_of}
use Rattle.entry_model.specs.Trial.{Plan, call, plan_of_code}
use Rattle.papr_codes.specs.declared.codes.Rc.TheVariants as rc

-- ---- arguments
-- A test by this word, where the flag is set.
abbrev pub where_flag : ℕ → ℕ → ℕ → Option ℕ
where_flag flags flag word = if has_flag flags flag then Some word else None

-- H_REMOVE's test: the word is compared under H_AVPN, and masks under H_ANDCOND; with both flags
-- both apply.
abbrev pub remove_test : ℕ → ℕ → Test
remove_test flags avpn = record {
  avpn = where_flag flags h_avpn avpn;
  andcond = where_flag flags h_andcond avpn;
}

-- H_PROTECT's test: H_AVPN alone.
abbrev pub protect_test : ℕ → ℕ → Test
protect_test flags avpn = record { avpn = where_flag flags h_avpn avpn; andcond = None }

-- ---- replies
-- Both doublewords of the state before.
abbrev pub both_words : Receipt → List ℕ
both_words r = (words_of r.before).0 ∷ (words_of r.before).1 ∷ []

-- Doubleword 1 of the state before.
abbrev pub second_word : Receipt → List ℕ
second_word r = (words_of r.before).1 ∷ []

-- NotFound gives H_NOT_FOUND, Worn gives H_HARDWARE, and any other answer H_SUCCESS with these
-- words.
abbrev pub code_and_words : Answer → List ℕ → Rc × List ℕ
code_and_words NotFound words = (rc.NotFound, [])
code_and_words Worn words = (rc.Hardware, [])
code_and_words other words = (rc.Success, words)

-- The reply of a call on one entry, by its one receipt.
abbrev pub told_by : (Receipt → List ℕ) → List Receipt → Rc × List ℕ
told_by words [] = (rc.Parameter, [])
told_by words (r ∷ rs) = code_and_words r.answer (words r)

-- ---- plans
-- One operation on the named entry; H_PARAMETER where the index is past the table.
abbrev pub single_plan : ℕ → ℕ → Op → (Receipt → List ℕ) → Plan
single_plan order ptex op words =
    if nat_lt ptex (entry_count order)
    then record { calls = call op ptex ∷ []; goes_on = λ answer. true; told = told_by words }
    else plan_of_code rc.Parameter

-- H_REMOVE: the entry's doublewords as they were.
unfoldable pub h_remove_plan : ℕ → ℕ → ℕ → ℕ → Plan
h_remove_plan order flags ptex avpn =
    single_plan order ptex (Remove (remove_test flags avpn)) both_words

-- H_PROTECT: no word.
unfoldable pub h_protect_plan : ℕ → ℕ → ℕ → ℕ → Plan
h_protect_plan order flags ptex avpn =
    single_plan order ptex (Protect (protect_test flags avpn) flags) (λ r. [])

-- H_CLEAR_REF: doubleword 1 as it was.
unfoldable pub h_clear_ref_plan : ℕ → ℕ → Plan
h_clear_ref_plan order ptex = single_plan order ptex ClearRef second_word

-- H_CLEAR_MOD: doubleword 1 as it was.
unfoldable pub h_clear_mod_plan : ℕ → ℕ → Plan
h_clear_mod_plan order ptex = single_plan order ptex ClearMod second_word

-- ---- H_READ
-- The named entry, or under H_READ_4 the four that it lies among.
abbrev pub read_entries : ℕ → ℕ → List ℕ
read_entries flags ptex =
    if has_flag flags h_read_4 then range_with_len (ptex / 4 * 4) 4 else range_with_len ptex 1

-- Each entry's doublewords, in order.
unfoldable pub h_read_plan : ℕ → ℕ → ℕ → Plan
h_read_plan order flags ptex =
    if nat_lt ptex (entry_count order)
    then
    record {
      calls = map (call Read) (read_entries flags ptex);
      goes_on = λ answer. true;
      told = λ rs. (rc.Success, flat_map both_words rs);
    }
    else plan_of_code rc.Parameter
