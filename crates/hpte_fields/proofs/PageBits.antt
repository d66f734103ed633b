-- The bits of doubleword 1 that say which real page an entry maps.
use Rattle.std.proofs.Common.{◌≡◌, ℕ, ◌*◌, ◌/◌, ◌^◌, ap, sym, ◌∙◌, refl}
use Rattle.std.proofs.lemmas.Nat.{and_assoc}
use Rattle.page_sizes.specs.Sizes.{size_of}
use Rattle.hpte_fields.specs.Fields.{page_bits, frame_of, without_rc}
use Rattle.hpte_fields.proofs.Masks.{field_stays}

-- ---- they say the size and the frame
size_by_bits : (dword0 dword1 : ℕ) → size_of dword0 (page_bits dword1) ≡ size_of dword0 dword1
size_by_bits h l =
    rw (
      field_stays l 0x0FFFFFFFFFFFF000 12 4 refl,
      field_stays l 0x0FFFFFFFFFFFF000 12 12 refl,
      field_stays l 0x0FFFFFFFFFFFF000 12 22 refl,
    ) refl

pub same_size :
    (dword0 dword1 other : ℕ)
    → page_bits dword1 ≡ page_bits other
    → size_of dword0 dword1 ≡ size_of dword0 other
same_size h l m e = sym (size_by_bits h l) ∙ ap (size_of h) e ∙ size_by_bits h m

pub same_frame :
    (dword1 other actual : ℕ)
    → page_bits dword1 ≡ page_bits other
    → frame_of dword1 actual ≡ frame_of other actual
same_frame l m actual e = ap (λ b. b / 2 ^ actual * 2 ^ actual) e

-- ---- clearing R and C leaves them
pub without_rc_page : (dword1 : ℕ) → page_bits (without_rc dword1) ≡ page_bits dword1
without_rc_page l = and_assoc 0x0FFFFFFFFFFFF000 l 0xFFFFFFFFFFFFFE7F
