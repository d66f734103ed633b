-- The segment lookaside buffer: 32 slots, what an slbmte makes of them, and the segment of an
-- address.
use Rattle.std.specs.Prelude.{◌≡◌, ℕ, if◌then◌else◌, List, length, filter_map, find, slice_set, replicate, All, IfSome, Option, None, option_and_then}
use Rattle.slb_model.specs.declared.segment.Segment.{Segment}
use Rattle.slb_model.specs.declared.slot.Slot.{Slot}
use Rattle.slb_model.specs.Slots.{IsSlot, slot_number, is_valid, slot_of_words, covers, segment_by}

-- All 32 slots are invalid.
unfoldable pub no_slots : List (Option Slot)
no_slots = replicate 32 None

-- The valid slots, the lowest first.
abbrev pub valid_slots : List (Option Slot) → List Slot
valid_slots slots = filter_map (λ (slot : Option Slot). slot) slots

-- ---- slbmte
-- The slot that the first word names holds what the words describe; without V it is invalid.
unfoldable pub slots_after : List (Option Slot) → ℕ → ℕ → List (Option Slot)
slots_after slots rb rs =
    slice_set slots (slot_number rb) (if is_valid rb then slot_of_words rb rs else None)

-- ---- the segment of an address
-- By the lowest valid slot whose ESID the address has.
unfoldable pub segment_of : List (Option Slot) → ℕ → Option Segment
segment_of slots ea = option_and_then (segment_by ea) (find (covers ea) (valid_slots slots))

-- ---- what holds at all times
-- There are 32 slots, and the parts of a valid one are in range.
pub record IsBuffer (slots : List (Option Slot)) : Type 0 where
  pub count : length slots ≡ 32
  pub in_range : All (λ slot. IfSome slot IsSlot) slots
