-- H_ENTER after its checks: the entries that it tries, and the reply that their answers give.
use Rattle.hpte_fields.specs.TableSize.{group_size}
use Rattle.std.specs.Prelude.{ℕ, ◌*◌, ◌/◌, List, [], ◌∷◌, map, if◌then◌else◌, Option, None, Some}
use Rattle.std.specs.List.{range_with_len}
use Rattle.papr_codes.specs.FlagBits.{has_flag, h_exact}
use Rattle.papr_codes.specs.declared.codes.Rc.{Rc}
use Rattle.papr_codes.specs.declared.codes.Rc.TheVariants.{Success, PtegFull, Hardware}
use Rattle.entry_model.specs.declared.operation.Op.TheVariants.{Enter}
use Rattle.entry_model.specs.declared.receipt.Receipt.{Receipt}
use Rattle.entry_model.specs.Receipt.{is_taken, is_worn}
use Rattle.entry_model.specs.Trial.{Plan, call}

-- Under H_EXACT the named entry, else the eight of its group in slot order.
unfoldable pub candidates : ℕ → ℕ → List ℕ
candidates flags ptex =
    if has_flag flags h_exact
    then range_with_len ptex 1
    else range_with_len (ptex / group_size * group_size) group_size

-- The reply of H_ENTER by the receipt of the entry that wasn't taken: Entered gives H_SUCCESS and
-- the index, Worn gives H_HARDWARE. With no such receipt the group is full.
abbrev pub told_by_ending : Option Receipt → Rc × List ℕ
told_by_ending None = (PtegFull, [])
told_by_ending (Some r) = if is_worn r.answer then (Hardware, []) else (Success, r.entry ∷ [])

-- The last receipt decides: Entered gives H_SUCCESS and the index, Worn gives H_HARDWARE. Where
-- each was Taken the group is full.
abbrev pub enter_told : List Receipt → Rc × List ℕ
enter_told [] = (PtegFull, [])
enter_told (r ∷ rs) = if is_taken r.answer then enter_told rs else told_by_ending (Some r)

-- The candidates are tried in turn as long as they are taken.
abbrev pub enter_plan : ℕ → ℕ → ℕ → ℕ → Plan
enter_plan flags ptex dword0 dword1 = record {
  calls = map (call (Enter dword0 dword1)) (candidates flags ptex);
  goes_on = is_taken;
  told = enter_told;
}
