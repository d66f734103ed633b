-- What the two doublewords of an entry say at an index: a page and its fields, or why there is
-- none.
use Rattle.std.specs.Prelude.{◌≡◌, ◌↔◌, ℕ, ◌<◌, ◌-◌, ◌+◌, ◌%◌, ◌^◌, ◌==◌, ◌&&◌, nat_lt, nat_le, Bool, true, false, not, IsSome, if◌then◌else◌, [], ◌∷◌, find, Option, Some, None, is_none}
use Rattle.std.specs.Option.{option_map_or}
use Rattle.storage_prot.specs.Protection.{Permission, permission, may_read, may_write}
use Rattle.power_addr.specs.Pages.{VirtualPage, IsPage, is_base_shift, tag_of}
use Rattle.page_sizes.specs.declared.size.PageSize.{PageSize}
use Rattle.page_sizes.specs.Sizes.{size_of}
use Rattle.hpte_fields.specs.TableSize.{entry_count, is_table_order}
use Rattle.hpte_fields.specs.Fields.{is_valid, is_one_tb, is_bolted, is_secondary, is_referenced, is_changed, is_no_execute, segment_code, tag_field, key_of, pp_of, wimg_of, frame_of}
use Rattle.hpt_hash.specs.Entries.{number_field, page_at}
use Rattle.papr_c.specs.declared.decoding.PaprPage.{PaprPage}
use Rattle.papr_c.specs.declared.decoding.NoPage.{NoPage}
use Rattle.papr_c.specs.declared.decoding.NoPage.TheVariants.{Empty, NoSize, NoSegment, OtherGroup, NoIndex}

-- ---- why doublewords translate no page
-- The index is one of a table of 2 ^ order bytes.
abbrev pub is_index : ℕ → ℕ → Bool
is_index order ptex = is_table_order order && nat_lt ptex (entry_count order)

-- A page of this base size lies where the tag says: B is the code of a segment's size, such a
-- segment has pages of that size, and the address bits of the tag that lie inside the page are
-- clear.
abbrev pub fits_tag : ℕ → ℕ → Bool
fits_tag dword0 base =
    nat_le (segment_code dword0) 1
    && is_base_shift (is_one_tb dword0) base
    && (number_field dword0 % 2 ^ (base - 23) == 0)

-- The cause holds of these doublewords at this index of a table of 2 ^ order bytes.
abbrev pub is_cause : ℕ → ℕ → ℕ → ℕ → NoPage → Bool
is_cause order ptex dword0 dword1 NoIndex = not (is_index order ptex)
is_cause order ptex dword0 dword1 Empty = not (is_valid dword0)
is_cause order ptex dword0 dword1 NoSize = is_none (size_of dword0 dword1)
is_cause order ptex dword0 dword1 NoSegment =
    option_map_or (λ (size : PageSize). not (fits_tag dword0 size.base)) (size_of dword0 dword1)
    false
is_cause order ptex dword0 dword1 OtherGroup = is_none (page_at order ptex dword0 dword1)

-- The first of the causes that holds, where one does.
unfoldable pub cause_of : ℕ → ℕ → ℕ → ℕ → Option NoPage
cause_of order ptex dword0 dword1 =
    find
    (is_cause order ptex dword0 dword1)
    (NoIndex ∷ Empty ∷ NoSize ∷ NoSegment ∷ OtherGroup ∷ [])

-- The number of a cause.
abbrev pub cause_number : NoPage → ℕ
cause_number Empty = 1
cause_number NoSize = 2
cause_number NoSegment = 3
cause_number OtherGroup = 4
cause_number NoIndex = 5

-- The number of the first that holds, or 0.
abbrev pub why_of : ℕ → ℕ → ℕ → ℕ → ℕ
why_of order ptex dword0 dword1 =
    option_map_or cause_number (cause_of order ptex dword0 dword1) 0

-- ---- what they say
-- Nothing but the number of a cause.
abbrev pub nothing_said : ℕ → PaprPage
nothing_said why = record {
  vsid = 0;
  page = 0;
  real = 0;
  base_shift = 0;
  actual_shift = 0;
  key = 0;
  protection = 0;
  wimg = 0;
  one_tb = false;
  no_execute = false;
  bolted = false;
  secondary = false;
  referenced = false;
  changed = false;
  why = why;
}

-- The fields of a valid entry, without those that its page gives.
abbrev pub fields_said : ℕ → ℕ → ℕ → PaprPage
fields_said dword0 dword1 why = record (nothing_said why) {
  key = key_of dword1;
  protection = pp_of dword1;
  wimg = wimg_of dword1;
  no_execute = is_no_execute dword1;
  bolted = is_bolted dword0;
  secondary = is_secondary dword0;
  referenced = is_referenced dword1;
  changed = is_changed dword1;
}

-- What is said of a page, with both sizes and the real page where a size is encoded.
abbrev pub with_size : ℕ → PaprPage → Option PageSize → PaprPage
with_size dword1 said None = said
with_size dword1 said (Some size) = record said {
  real = frame_of dword1 size.actual;
  base_shift = size.base;
  actual_shift = size.actual;
}

-- What is said of a page, with the virtual page where there is one.
abbrev pub with_page : PaprPage → Option VirtualPage → PaprPage
with_page said None = said
with_page said (Some p) = record said { vsid = p.vsid; page = p.index; one_tb = p.one_tb }

-- The virtual page of an entry, where its index is in range.
abbrev pub page_here : ℕ → ℕ → ℕ → ℕ → Option VirtualPage
page_here order ptex dword0 dword1 =
    if is_index order ptex then page_at order ptex dword0 dword1 else None

-- What doublewords whose V is set say without an index, and what without V.
abbrev pub words_said : ℕ → ℕ → ℕ → PaprPage
words_said dword0 dword1 why =
    if is_valid dword0
    then with_size dword1 (fields_said dword0 dword1 why) (size_of dword0 dword1)
    else nothing_said why

-- All that they say at an index of a table of 2 ^ order bytes.
abbrev pub decoded : ℕ → ℕ → ℕ → ℕ → PaprPage
decoded order ptex dword0 dword1 =
    with_page
    (words_said dword0 dword1 (why_of order ptex dword0 dword1))
    (page_here order ptex dword0 dword1)

-- ---- the protection of a page
-- The rights of a permission: read counts 4, and write 2.
abbrev pub rights_of_permission : Permission → ℕ
rights_of_permission p = (if may_read p then 4 else 0) + (if may_write p then 2 else 0)

-- What protection bits allow an access with this key.
abbrev pub protection_rights : ℕ → Bool → ℕ
protection_rights protection key = rights_of_permission (permission protection key)

-- ---- what is proved of it
-- A tag fits a base page size exactly if a page of that size has the tag.
abbrev pub TagsFitPages : Type 0
TagsFitPages =
    (dword0 base : ℕ)
    → dword0 < 2 ^ 64
    → (fits_tag dword0 base ≡ true)
    ↔ ((p : VirtualPage) × IsPage p × (p.shift ≡ base) × (tag_of p ≡ tag_field dword0))

-- No cause holds exactly if the doublewords translate a page at an index in range.
abbrev pub NoCauseExactlyAtPages : Type 0
NoCauseExactlyAtPages =
    (order ptex dword0 dword1 : ℕ)
    → dword0 < 2 ^ 64
    → (why_of order ptex dword0 dword1 ≡ 0) ↔ IsSome (page_here order ptex dword0 dword1)

-- Where doublewords translate a page, the base page size that they are decoded to is the page's.
abbrev pub BaseSizesAreThePages : Type 0
BaseSizesAreThePages =
    (order ptex dword0 dword1 : ℕ) (p : VirtualPage)
    → dword0 < 2 ^ 64
    → page_here order ptex dword0 dword1 ≡ Some p
    → (decoded order ptex dword0 dword1).base_shift ≡ p.shift
