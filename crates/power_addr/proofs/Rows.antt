-- Worked pages, their addresses and tags, computed from the definitions.
use Rattle.std.proofs.Common.{◌≡◌, ◌-◌, ◌^◌, true, false, refl}
use Rattle.power_addr.specs.Pages.{virtual_page, is_page, page_at_address, virtual_address, tag_of}

-- Page 5 of 4 KB in the 256 MB segment 1: the segment's number, followed by the offset 0x5000.
small_address : virtual_address (virtual_page false 1 12 5) ≡ 0x10005000
small_address = refl

-- Its address bits from weight 2 ^ 23 up are 0x20, which stand from bit 7 on.
small_tag : tag_of (virtual_page false 1 12 5) ≡ 0x1000
unfolding tag_of
small_tag = refl

-- Page 5 of 16 GB in the 1 TB segment 0x12345: the offset is 5 * 2 ^ 34 = 0x1400000000, in ten
-- hexadecimal digits that follow the segment's number.
huge_address : virtual_address (virtual_page true 0x12345 34 5) ≡ 0x123451400000000
huge_address = refl

-- The address without its low four digits, and B is 1.
huge_tag : tag_of (virtual_page true 0x12345 34 5) ≡ 0x4000012345140000
unfolding tag_of
huge_tag = refl

-- The last page of each kind of segment is a page, and the next is none; 16 GB fit no segment of
-- 256 MB.
last_small : is_page (virtual_page false (2 ^ 50 - 1) 12 0xFFFF) ≡ true
last_small = refl

past_small : is_page (virtual_page false (2 ^ 50 - 1) 12 0x10000) ≡ false
past_small = refl

last_huge : is_page (virtual_page true (2 ^ 38 - 1) 34 63) ≡ true
last_huge = refl

past_huge : is_page (virtual_page true (2 ^ 38 - 1) 34 64) ≡ false
past_huge = refl

no_huge : is_page (virtual_page false 0 34 0) ≡ false
no_huge = refl

-- The effective address 0x1234567890 lies 0x4567890 deep in its 256 MB segment, in page 0x4567 of 4
-- KB, 0x456 of 64 KB, and 4 of 16 MB.
at_4k : page_at_address false 9 12 0x1234567890 ≡ virtual_page false 9 12 0x4567
at_4k = refl

at_16m : page_at_address false 9 24 0x1234567890 ≡ virtual_page false 9 24 4
at_16m = refl

-- In a segment of 1 TB it is the offset itself, in page 0x1234 of 16 MB.
at_large : page_at_address true 9 24 0x1234567890 ≡ virtual_page true 9 24 0x1234
at_large = refl
