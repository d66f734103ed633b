-- The segment lookaside buffer as C has it: its slots, slbmte, and the slot of an address. The 32
-- slots are the caller's, and are as those of slb_model.
use Rattle.std.specs.Prelude.{ℕ, Bool, true, false, if◌then◌else◌, List, map, find, set, Option, Some, None}
use Rattle.std.specs.Option.{option_map_or}
use Rattle.slb_model.specs.declared.error.BadSlb.{BadSlb}
use Rattle.slb_model.specs.declared.error.BadSlb.TheVariants as bad
use Rattle.slb_model.specs.declared.slot.Slot.{Slot}
use Rattle.slb_model.specs.Slots.{slot_number, is_valid, slot_of_words, covers}
use Rattle.slb_model.specs.Refusals.{mte_refusal}
use Rattle.slb_model.specs.Buffer.{valid_slots}
use Rattle.papr_c.specs.declared.segments.PaprSlot.{PaprSlot}

-- ---- a slot
-- What a slot of C describes, where it is valid.
abbrev pub slot_of : PaprSlot → Option Slot
slot_of s =
    if s.valid
    then
    Some
    (record {
      esid = s.esid;
      one_tb = s.one_tb;
      vsid = s.vsid;
      shift = s.shift;
      ks = s.ks;
      kp = s.kp;
      no_execute = s.no_execute;
    })
    else None

-- A slot as C has it: all zero where it is invalid.
abbrev pub slot_told : Option Slot → PaprSlot
slot_told None = record {
  esid = 0;
  vsid = 0;
  shift = 0;
  valid = false;
  one_tb = false;
  ks = false;
  kp = false;
  no_execute = false;
}
slot_told (Some s) = record {
  esid = s.esid;
  vsid = s.vsid;
  shift = s.shift;
  valid = true;
  one_tb = s.one_tb;
  ks = s.ks;
  kp = s.kp;
  no_execute = s.no_execute;
}

-- ---- slbmte
-- The number of a refusal.
abbrev pub refusal_number : Option BadSlb → ℕ
refusal_number None = 0
refusal_number (Some bad.Slot) = 1
refusal_number (Some bad.SegmentSize) = 2
refusal_number (Some bad.PageSize) = 3

-- The slots after the two words: the one that the first names is what both describe, or invalid
-- where V is clear. What is refused changes none.
abbrev pub slots_by : Option BadSlb → List PaprSlot → ℕ → ℕ → List PaprSlot
slots_by (Some refused) slots rb rs = slots
slots_by None slots rb rs =
    set
    slots
    (slot_number rb)
    (slot_told (if is_valid rb then slot_of_words rb rs else None))

-- The number of the refusal, and the slots.
abbrev pub outcome_of_mte : List PaprSlot → ℕ → ℕ → ℕ × List PaprSlot
outcome_of_mte slots rb rs =
    (refusal_number (mte_refusal rb rs), slots_by (mte_refusal rb rs) slots rb rs)

-- ---- the segment of an address
-- The slot is valid, and has the address.
abbrev pub covering : ℕ → PaprSlot → Bool
covering ea s = option_map_or (covers ea) (slot_of s) false

-- The lowest valid slot that has the address.
abbrev pub slot_at : List PaprSlot → ℕ → Option Slot
slot_at slots ea = find (covers ea) (valid_slots (map slot_of slots))
