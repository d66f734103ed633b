-- The base page that an entry translates, by its doublewords and its index in the table.
use Rattle.std.specs.Prelude.{◌≡◌, ℕ, ◌+◌, ◌-◌, ◌*◌, ◌/◌, ◌%◌, ◌^◌, ◌==◌, ◌&&◌, Bool, true, false, if◌then◌else◌, IsTrue, IsSomeAnd, Option, Some, None, bit_xor}
use Rattle.std.specs.Option.{option_and_then}
use Rattle.page_sizes.specs.Sizes.{size_of}
use Rattle.page_sizes.specs.declared.size.PageSize.{PageSize}
use Rattle.hpte_fields.specs.Fields.{is_valid, is_secondary, is_one_tb, segment_code, tag_field}
use Rattle.power_addr.specs.Pages.{VirtualPage, offset_bits, page_of_address, segment_code_of, tag_of}
use Rattle.hpt_hash.specs.Hash.{group_of}

-- An entry with these doublewords, at this index of a table of 2 ^ order bytes, is one of the page
-- p.
pub record IsPageOf (order index dword0 dword1 : ℕ) (p : VirtualPage) : Type 0 where
  -- V is set.
  pub valid : IsTrue (is_valid dword0)
  -- The page's tag is doubleword 0 without its low seven bits.
  pub tag : tag_of p ≡ tag_field dword0
  -- The size that the doublewords encode has the page's size as its base.
  pub size : IsSomeAnd (size_of dword0 dword1) (λ size. size.base ≡ p.shift)
  -- The page's segment has the size that B says.
  pub segment : segment_code_of p.one_tb ≡ segment_code dword0
  -- The entry is in the page's primary group, or with H set in its secondary group.
  pub group : group_of p order (is_secondary dword0) ≡ index / 8

-- Four of these, which say as much of a page: its tag holds the size of its segment.
pub record SuitsPage (order index dword0 dword1 : ℕ) (p : VirtualPage) : Type 0 where
  pub valid : IsTrue (is_valid dword0)
  pub tag : tag_of p ≡ tag_field dword0
  pub size : IsSomeAnd (size_of dword0 dword1) (λ size. size.base ≡ p.shift)
  pub group : group_of p order (is_secondary dword0) ≡ index / 8

-- ---- the same page as a function, for definitions that list pages
-- The address bits that a doubleword 0 holds: those from weight 2 ^ 23 up.
abbrev pub number_field : ℕ → ℕ
number_field dword0 = dword0 / 2 ^ 7 % 2 ^ 55

-- The low eleven bits of the hash of a page that has this group. A table has at least 2 ^ 11
-- groups, so the group has them, or their complement where it is the secondary one.
abbrev pub low_hash : ℕ → Bool → ℕ
low_hash group false = group % 2 ^ 11
low_hash group true = 2 ^ 11 - 1 - group % 2 ^ 11

-- The segment's number, from the address bits that a tag holds.
abbrev pub rebuilt_vsid : Bool → ℕ → ℕ
rebuilt_vsid one_tb number = number / 2 ^ (offset_bits one_tb - 23)

-- The offset in the segment: its bits from weight 2 ^ 23 up are those that the tag holds, and below
-- them stand those of the index, which is mixed into the hash with the segment's number.
abbrev pub rebuilt_offset : Bool → ℕ → ℕ → ℕ → ℕ
rebuilt_offset one_tb number shift low =
    number % 2 ^ (offset_bits one_tb - 23) * 2 ^ 23
    + bit_xor low (rebuilt_vsid one_tb number % 2 ^ 11) * 2 ^ shift % 2 ^ 23

-- The only page that can have this segment size, these address bits from weight 2 ^ 23 up, this
-- base page size, and these low bits of its hash.
abbrev pub rebuilt_page : Bool → ℕ → ℕ → ℕ → Option VirtualPage
rebuilt_page one_tb number shift low =
    page_of_address
    one_tb
    (rebuilt_vsid one_tb number)
    shift
    (rebuilt_offset one_tb number shift low)

-- A page, where its tag and its group are the entry's.
abbrev pub confirmed_page : ℕ → ℕ → ℕ → VirtualPage → Option VirtualPage
confirmed_page order index dword0 p =
    if (tag_of p == tag_field dword0) && (group_of p order (is_secondary dword0) == index / 8)
    then Some p
    else None

-- The page of an entry whose doublewords encode this size.
abbrev pub page_of_size : ℕ → ℕ → ℕ → PageSize → Option VirtualPage
page_of_size order index dword0 size =
    option_and_then
    (confirmed_page order index dword0)
    (rebuilt_page
    (is_one_tb dword0)
    (number_field dword0)
    size.base
    (low_hash (index / 8) (is_secondary dword0)))

-- The page of an entry, or none.
unfoldable pub page_at : ℕ → ℕ → ℕ → ℕ → Option VirtualPage
page_at order index dword0 dword1 =
    if is_valid dword0
    then option_and_then (page_of_size order index dword0) (size_of dword0 dword1)
    else None
