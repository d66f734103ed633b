-- Worked values, which the checker computes.
use Rattle.std.proofs.Common.{◌≡◌, ℕ, Bool, true, false, List, Option, Some, None, refl}
use Rattle.power_addr.specs.Pages.{VirtualPage}
use Rattle.slb_model.specs.declared.slot.Slot.{Slot}
use Rattle.slb_model.specs.Slots.{slot_of_words}
use Rattle.slb_model.specs.Refusals.{tests_of_words, mte_refusal}
use Rattle.slb_model.specs.Buffer.{no_slots, slots_after, segment_of}
use Rattle.slb_model.specs.declared.error.BadSlb.TheVariants as bad

-- ---- what is refused, and in which order
fine : mte_refusal 0x8000000 0x1000 ≡ None
unfolding mte_refusal tests_of_words
fine = refl

no_such_slot : mte_refusal 0x8000020 0x1000 ≡ Some bad.Slot
unfolding mte_refusal tests_of_words
no_such_slot = refl

last_slot : mte_refusal 0x800001f 0x1000 ≡ None
unfolding mte_refusal tests_of_words
last_slot = refl

slot_first : mte_refusal 0x8000020 0x8000000000001120 ≡ Some bad.Slot
unfolding mte_refusal tests_of_words
slot_first = refl

size_of_segment : mte_refusal 0x8000000 0x8000000000001130 ≡ Some bad.SegmentSize
unfolding mte_refusal tests_of_words
size_of_segment = refl

huge_page_in_256_mb : mte_refusal 0x8000000 0x1120 ≡ Some bad.PageSize
unfolding mte_refusal tests_of_words
huge_page_in_256_mb = refl

huge_page_in_1_tb : mte_refusal 0x8000000 0x4000000001000120 ≡ None
unfolding mte_refusal tests_of_words
huge_page_in_1_tb = refl

no_page_size : mte_refusal 0x8000000 0x4000000001000130 ≡ Some bad.PageSize
unfolding mte_refusal tests_of_words
no_page_size = refl

not_valid : mte_refusal 0 0x8000000000001130 ≡ None
unfolding mte_refusal tests_of_words
not_valid = refl

-- ---- segments
page_at : Bool → ℕ → ℕ → ℕ → VirtualPage
page_at one_tb vsid shift index =
    record { one_tb = one_tb; vsid = vsid; shift = shift; index = index }

after : ℕ → ℕ → List (Option Slot)
after rb rs = slots_after no_slots rb rs

small :
    segment_of (after 0x8000000 0x1000) 0x5000
    ≡ Some (record { page = page_at false 1 12 5; ks = false; kp = false; no_execute = false })
unfolding segment_of slots_after slot_of_words no_slots after page_at
small = refl

large :
    segment_of (after 0x8000000 0x4000000001000000) 0x5000
    ≡ Some (record { page = page_at true 1 12 5; ks = false; kp = false; no_execute = false })
unfolding segment_of slots_after slot_of_words no_slots after page_at
large = refl

-- The next 256 MB lie in the segment of 1 TB, and not in that of 256 MB.
past_small : segment_of (after 0x8000000 0x1000) 0x10005000 ≡ None
unfolding segment_of slots_after slot_of_words no_slots after
past_small = refl

within_large :
    segment_of (after 0x8000000 0x4000000001000000) 0x10005000
    ≡ Some (record { page = page_at true 1 12 0x10005; ks = false; kp = false; no_execute = false })
unfolding segment_of slots_after slot_of_words no_slots after page_at
within_large = refl

keys :
    segment_of (after 0x8000000 0x1900) 0x5000
    ≡ Some (record { page = page_at false 1 24 0; ks = true; kp = false; no_execute = false })
unfolding segment_of slots_after slot_of_words no_slots after page_at
keys = refl

-- Of two slots for one address the lower counts, whichever was written first.
lower :
    segment_of (slots_after (after 0x8000003 0x3000) 0x8000001 0x2600) 0x5000
    ≡ Some (record { page = page_at false 2 12 5; ks = false; kp = true; no_execute = true })
unfolding segment_of slots_after slot_of_words no_slots after page_at
lower = refl

-- Without V the slot is made invalid.
made_invalid : segment_of (slots_after (after 0x8000003 0x3000) 0x3 0x3000) 0x5000 ≡ None
unfolding segment_of slots_after slot_of_words no_slots after
made_invalid = refl
