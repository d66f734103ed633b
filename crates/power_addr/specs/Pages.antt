-- Pages of the virtual address space: which there are, where they lie, and their tags.
-- Power ISA 2.07 Book III-S, storage addressing: a virtual address has 78 bits, the segment's
-- number (VSID) and then the offset in the segment.
use Rattle.std.specs.Prelude.{ℕ, ◌+◌, ◌-◌, ◌*◌, ◌/◌, ◌%◌, ◌^◌, ◌<◌, ◌==◌, ◌&&◌, nat_lt, Bool, true, false, if◌then◌else◌, IsTrue, List, [], ◌∷◌, Option, Some, None, bit_and}
use Rattle.std.specs.List.{list_any}
use Rattle.basics.specs.Words.{bool_eq}

-- A page: whether its segment is one of 1 TB (else one of 256 MB), the segment's number, the binary
-- logarithm of the page's size, and the number of pages before it in the segment.
pub record VirtualPage : Type 0 where
  pub one_tb : Bool
  pub vsid : ℕ
  pub shift : ℕ
  pub index : ℕ

-- The page with these parts, in range or not.
abbrev pub virtual_page : Bool → ℕ → ℕ → ℕ → VirtualPage
virtual_page one_tb vsid shift index = record {
  one_tb = one_tb;
  vsid = vsid;
  shift = shift;
  index = index;
}

-- The first page of the first segment of 256 MB, in pages of 4 KB.
abbrev pub first_page : VirtualPage
first_page = virtual_page false 0 12 0

-- ---- the ranges
-- The bits of an offset in a segment.
abbrev pub offset_bits : Bool → ℕ
offset_bits false = 28
offset_bits true = 40

-- The bits of a segment's number.
abbrev pub vsid_bits : Bool → ℕ
vsid_bits false = 50
vsid_bits true = 38

-- The base page sizes of a segment: 4 KB, 64 KB and 16 MB, and in one of 1 TB also 16 GB.
abbrev pub base_shifts : Bool → List ℕ
base_shifts false = 12 ∷ 16 ∷ 24 ∷ []
base_shifts true = 12 ∷ 16 ∷ 24 ∷ 34 ∷ []

-- The size is one that a page of such a segment can have.
abbrev pub is_base_shift : Bool → ℕ → Bool
is_base_shift one_tb shift = list_any (λ s. s == shift) (base_shifts one_tb)

-- The number is one that such a segment can have.
abbrev pub is_vsid : Bool → ℕ → Bool
is_vsid one_tb vsid = nat_lt vsid (2 ^ vsid_bits one_tb)

-- A page has each part in its range.
pub record IsPage (p : VirtualPage) : Type 0 where
  pub vsid : p.vsid < 2 ^ vsid_bits p.one_tb
  pub shift : IsTrue (is_base_shift p.one_tb p.shift)
  pub index : p.index < 2 ^ (offset_bits p.one_tb - p.shift)

-- Whether each part of a page is in its range, as a test.
abbrev pub is_page : VirtualPage → Bool
is_page p =
    is_vsid p.one_tb p.vsid
    && is_base_shift p.one_tb p.shift
    && nat_lt p.index (2 ^ (offset_bits p.one_tb - p.shift))

-- The page with these parts, where each is in its range.
abbrev pub page_of_parts : Bool → ℕ → ℕ → ℕ → Option VirtualPage
page_of_parts one_tb vsid shift index =
    if is_page (virtual_page one_tb vsid shift index)
    then Some (virtual_page one_tb vsid shift index)
    else None

-- ---- addresses
-- The page of a segment that holds the segment offset of an effective address.
abbrev pub page_at_address : Bool → ℕ → ℕ → ℕ → VirtualPage
page_at_address one_tb vsid shift ea =
    virtual_page one_tb vsid shift (ea % 2 ^ offset_bits one_tb / 2 ^ shift)

-- That page, where the segment's number and the base page size are in range.
abbrev pub page_of_address : Bool → ℕ → ℕ → ℕ → Option VirtualPage
page_of_address one_tb vsid shift ea =
    if is_vsid one_tb vsid && is_base_shift one_tb shift
    then Some (page_at_address one_tb vsid shift ea)
    else None

-- The virtual address of the page's first byte.
abbrev pub virtual_address : VirtualPage → ℕ
virtual_address p = p.vsid * 2 ^ offset_bits p.one_tb + p.index * 2 ^ p.shift

-- B, the code of the segment's size.
abbrev pub segment_code_of : Bool → ℕ
segment_code_of false = 0
segment_code_of true = 1

-- The tag of the page's entries, as in doubleword 0: B in the top two bits, and the abbreviated
-- virtual page number, which holds the address bits from weight 2 ^ 23 up.
unfoldable pub tag_of : VirtualPage → ℕ
tag_of p =
    segment_code_of p.one_tb * 2 ^ 62 + bit_and (virtual_address p / 2 ^ 16) 0x3FFFFFFFFFFFFF80

-- ---- comparing
-- The two pages have the same parts.
unfoldable pub same_page : VirtualPage → VirtualPage → Bool
same_page p q =
    bool_eq p.one_tb q.one_tb && (p.vsid == q.vsid) && (p.shift == q.shift) && (p.index == q.index)
