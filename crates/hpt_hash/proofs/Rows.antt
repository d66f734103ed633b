-- Worked groups and pages of entries, computed from the definitions.
use Rattle.std.proofs.Common.{◌≡◌, true, false, refl, Some, None}
use Rattle.power_addr.specs.Pages.{virtual_page, tag_of}
use Rattle.hpt_hash.specs.Hash.{hash_of, group_of}
use Rattle.hpt_hash.specs.Entries.{page_at}

-- ---- groups
-- 1 xor 5 is 4; of 2 ^ 11 groups the complement is 0x7FF - 4.
small_primary : group_of (virtual_page false 1 12 5) 18 false ≡ 4
unfolding group_of
small_primary = refl

small_secondary : group_of (virtual_page false 1 12 5) 18 true ≡ 0x7FB
unfolding group_of
small_secondary = refl

-- 0x801 xor 5 is 0x804; of 2 ^ 12 groups the complement is 0xFFF - 0x804.
wider_primary : group_of (virtual_page false 0x801 12 5) 19 false ≡ 0x804
unfolding group_of
wider_primary = refl

wider_secondary : group_of (virtual_page false 0x801 12 5) 19 true ≡ 0x7FB
unfolding group_of
wider_secondary = refl

-- In a segment of 1 TB: 0x12345 shifted by 25 bits is 0x2468A000000, of which 39 bits are
-- 0x468A000000; 0x12345 xor 0xABCDEF is 0xAAEEAA.
large_hash : hash_of (virtual_page true 0x12345 12 0xABCDEF) ≡ 0x468AAAEEAA
large_hash = refl

-- Of 2 ^ 39 groups the complement is 0x7FFFFFFFFF - 0x468AAAEEAA.
large_secondary : group_of (virtual_page true 0x12345 12 0xABCDEF) 46 true ≡ 0x3975551155
unfolding group_of
large_secondary = refl

-- ---- pages of entries
-- Entry 0x20 is of group 4, and 4 xor 1 is index 5.
first_page : page_at 18 0x20 0x1001 0x3012 ≡ Some (virtual_page false 1 12 5)
unfolding page_at group_of tag_of
first_page = refl

-- Entry 0x3FD8 is of group 0x7FB, the secondary one of the same page.
second_page : page_at 18 0x3FD8 0x1003 0x3012 ≡ Some (virtual_page false 1 12 5)
unfolding page_at group_of tag_of
second_page = refl

-- Entry 0x28 is of group 5, and 5 xor 1 is index 4.
third_page : page_at 18 0x28 0x1001 0x3012 ≡ Some (virtual_page false 1 12 4)
unfolding page_at group_of tag_of
third_page = refl

-- The tag leaves open seven bits of a 64 KB page's index, so 1 xor the index is below 0x80, and its
-- group isn't 0x80.
no_page : page_at 18 0x400 0x1015 0x11012 ≡ None
unfolding page_at group_of tag_of
no_page = refl

-- V is clear; B is 2.
not_valid : page_at 18 0x20 0x1000 0x3012 ≡ None
unfolding page_at
not_valid = refl

no_segment : page_at 18 0x20 0x8000000000001001 0x3012 ≡ None
unfolding page_at group_of tag_of
no_segment = refl

-- Page 9 of 16 GB in the 1 TB segment 0x15: group 0x15 xor 9 is 0x1C, entry 0xE0.
huge_page : page_at 18 0xE0 0x4000000015240005 0x400003012 ≡ Some (virtual_page true 0x15 34 9)
unfolding page_at group_of tag_of
huge_page = refl

-- ---- a base page inside a larger one
-- Page 5 of segment 1, of 4 KB, in an actual page of 64 KB: the group is that of page 5.
small_in_64_kb : page_at 18 0x20 0x1005 0x17012 ≡ Some (virtual_page false 1 12 5)
unfolding page_at group_of tag_of
small_in_64_kb = refl

-- The next base page of the same 64 KB has group 7, so an entry for it is in that group.
the_next_in_64_kb : page_at 18 0x38 0x1005 0x17012 ≡ Some (virtual_page false 1 12 6)
unfolding page_at group_of tag_of
the_next_in_64_kb = refl

-- In one of 16 MB: 1 xor 5 again.
small_in_16_mb : page_at 18 0x20 0x1005 0x7038012 ≡ Some (virtual_page false 1 12 5)
unfolding page_at group_of tag_of
small_in_16_mb = refl

-- Page 0x580 of segment 1, of 64 KB, in one of 16 MB: 1 xor 0x580 is group 0x581, entry 0x2C08.
medium_in_16_mb : page_at 18 0x2C08 0x1585 0x3008012 ≡ Some (virtual_page false 1 16 0x580)
unfolding page_at group_of tag_of
medium_in_16_mb = refl
