-- One slot of the segment lookaside buffer: what the words of an slbmte describe, and the segment
-- of an address in it.
use Rattle.std.specs.Prelude.{ℕ, ◌/◌, ◌%◌, ◌^◌, ◌<◌, ◌==◌, Bool, false, if◌then◌else◌, bit_and, IsTrue, List, [], ◌∷◌, Option, option_map, find}
use Rattle.std.specs.Option.{option_map_or}
use Rattle.power_addr.specs.Pages.{VirtualPage, is_vsid, is_base_shift, page_of_address}
use Rattle.slb_model.specs.declared.segment.Segment.{Segment}
use Rattle.slb_model.specs.declared.slot.Slot.{Slot}

-- ---- the first word, rb
-- The slot that the words name.
abbrev pub slot_number : ℕ → ℕ
slot_number rb = rb % 2 ^ 12

-- V is set.
abbrev pub is_valid : ℕ → Bool
is_valid rb = bit_and rb 0x08000000 == 0x08000000

-- The upper 36 bits.
abbrev pub esid_of : ℕ → ℕ
esid_of rb = rb / 2 ^ 28

-- ---- the second word, rs
-- B: 0 is a segment of 256 MB, 1 one of 1 TB.
abbrev pub segment_code : ℕ → ℕ
segment_code rs = rs / 2 ^ 62

-- The segment is one of 1 TB.
abbrev pub is_one_tb : ℕ → Bool
is_one_tb rs = segment_code rs == 1

-- The VSID is below B, above the low 12 bits for 256 MB and above the low 24 bits for 1 TB.
abbrev pub vsid_of : ℕ → ℕ
vsid_of rs = rs % 2 ^ 62 / 2 ^ (if is_one_tb rs then 24 else 12)

-- Ks.
abbrev pub is_ks : ℕ → Bool
is_ks rs = bit_and rs 0x800 == 0x800

-- Kp.
abbrev pub is_kp : ℕ → Bool
is_kp rs = bit_and rs 0x400 == 0x400

-- N.
abbrev pub is_no_execute : ℕ → Bool
is_no_execute rs = bit_and rs 0x200 == 0x200

-- A base page size: L and LP, and the binary logarithm of the size that they encode.
pub record BasePage : Type 0 where
  pub code : ℕ
  pub shift : ℕ

-- 4 KB, 64 KB, 16 MB and 16 GB.
abbrev pub base_pages : List BasePage
base_pages =
    record { code = 0x000; shift = 12 }
    ∷ record { code = 0x110; shift = 16 }
    ∷ record { code = 0x100; shift = 24 }
    ∷ record { code = 0x120; shift = 34 }
    ∷ []

-- The base page size that the words encode, if it is one.
abbrev pub base_shift_of : ℕ → Option ℕ
base_shift_of rs =
    option_map
    (λ (page : BasePage). page.shift)
    (find (λ (page : BasePage). page.code == bit_and rs 0x130) base_pages)

-- The words encode a base page size that a segment of their size can have.
abbrev pub has_base_page : ℕ → Bool
has_base_page rs = option_map_or (is_base_shift (is_one_tb rs)) (base_shift_of rs) false

-- ---- the slot
-- The slot with these words and this base page size.
abbrev pub slot_with : ℕ → ℕ → ℕ → Slot
slot_with rb rs shift =
    record {
      esid = esid_of rb;
      one_tb = is_one_tb rs;
      vsid = vsid_of rs;
      shift = shift;
      ks = is_ks rs;
      kp = is_kp rs;
      no_execute = is_no_execute rs;
    }

-- The slot that the words describe, where they encode a base page size.
unfoldable pub slot_of_words : ℕ → ℕ → Option Slot
slot_of_words rb rs = option_map (slot_with rb rs) (base_shift_of rs)

-- The parts of a slot are in their ranges.
pub record IsSlot (slot : Slot) : Type 0 where
  pub esid : slot.esid < 2 ^ 36
  pub vsid : IsTrue (is_vsid slot.one_tb slot.vsid)
  pub shift : IsTrue (is_base_shift slot.one_tb slot.shift)

-- ---- an address
-- The address begins with the slot's ESID: with 36 bits of it, or 24 for a segment of 1 TB.
abbrev pub covers : ℕ → Slot → Bool
covers ea slot = if slot.one_tb then ea / 2 ^ 40 == slot.esid / 2 ^ 12 else ea / 2 ^ 28 == slot.esid

-- The slot's segment, with this page.
abbrev pub segment_with : Slot → VirtualPage → Segment
segment_with slot page = record {
  page = page;
  ks = slot.ks;
  kp = slot.kp;
  no_execute = slot.no_execute;
}

-- The segment, with the page that holds the address.
abbrev pub segment_by : ℕ → Slot → Option Segment
segment_by ea slot =
    option_map (segment_with slot) (page_of_address slot.one_tb slot.vsid slot.shift ea)
