-- H_PUT_TCE and H_GET_TCE: the operations on entries that each makes, and the reply that their
-- receipts give.
use Rattle.std.specs.Prelude.{ℕ, true, false, not, ◌||◌, List, [], ◌∷◌, map, if◌then◌else◌}
use Rattle.std.specs.Option.{option_map_or}
use Rattle.frame_grants.specs.declared.grant.Grant.{Grant}
use Rattle.papr_codes.specs.declared.codes.Rc.{Rc}
use Rattle.papr_codes.specs.declared.codes.Rc.TheVariants as rc
use Rattle.entry_model.specs.declared.operation.Answer.{Answer}
use Rattle.entry_model.specs.declared.operation.Answer.TheVariants.{Worn, Taken}
use Rattle.entry_model.specs.declared.operation.Op.{Op}
use Rattle.entry_model.specs.declared.operation.Op.TheVariants.{Enter, Remove, Read}
use Rattle.entry_model.specs.declared.receipt.Receipt.{Receipt}
use Rattle.entry_model.specs.Receipt.{is_worn}
use Rattle.entry_model.specs.Trial.{Plan, call, plan_of_code}
use Rattle.bus_window.specs.Windows.{BusWindow, entry_at}
use Rattle.dma_window.specs.Pages.{is_ram}
use Rattle.dma_window.specs.Entries.{address_of, permits, first_word, second_word, tce_of}
use Rattle.entry_model.specs.Reply.{no_test}

-- ---- replies
-- Worn gives H_HARDWARE, Taken gives H_BUSY, and any other answer H_SUCCESS.
abbrev pub code_of : Answer → Rc
code_of Worn = rc.Hardware
code_of Taken = rc.Busy
code_of other = rc.Success

-- The code of H_PUT_TCE by the last of its receipts.
abbrev pub code_by_last : List Receipt → Rc
code_by_last [] = rc.Success
code_by_last (r ∷ []) = code_of r.answer
code_by_last (r ∷ x ∷ rs) = code_by_last (x ∷ rs)

-- ---- H_PUT_TCE
-- The entry is emptied.
abbrev pub clear_plan : ℕ → Plan
clear_plan entry = record {
  calls = call (Remove no_test) entry ∷ [];
  goes_on = λ answer. not (is_worn answer);
  told = λ rs. (code_by_last rs, []);
}

-- The entry is emptied, and unless it is worn this operation is made on it.
abbrev pub replace_plan : ℕ → Op → Plan
replace_plan entry op = record {
  calls = call (Remove no_test) entry ∷ call op entry ∷ [];
  goes_on = λ answer. not (is_worn answer);
  told = λ rs. (code_by_last rs, []);
}

-- A TCE that permits nothing empties its entry. Any other has to have its page in one grant of ram,
-- and replaces what the entry has.
abbrev pub put_plan_at : List Grant → ℕ → ℕ → Plan
put_plan_at grants tce entry =
    if permits tce false || permits tce true
    then
    (if is_ram grants (address_of tce)
    then replace_plan entry (Enter (first_word tce) (second_word tce))
    else plan_of_code rc.Parameter)
    else clear_plan entry

-- H_PARAMETER where the address lies outside the window.
unfoldable pub put_tce_plan : List Grant → BusWindow → ℕ → ℕ → Plan
put_tce_plan grants window ioba tce =
    option_map_or (put_plan_at grants tce) (entry_at window ioba) (plan_of_code rc.Parameter)

-- ---- H_GET_TCE
-- The entry is read, and the reply has the TCE that it kept.
abbrev pub get_plan_at : ℕ → Plan
get_plan_at entry = record {
  calls = call Read entry ∷ [];
  goes_on = λ answer. true;
  told = λ rs. (rc.Success, map (λ (r : Receipt). tce_of r.before) rs);
}

-- H_PARAMETER where the address lies outside the window.
unfoldable pub get_tce_plan : BusWindow → ℕ → Plan
get_tce_plan window ioba =
    option_map_or get_plan_at (entry_at window ioba) (plan_of_code rc.Parameter)
