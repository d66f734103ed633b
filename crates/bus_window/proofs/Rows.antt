-- Worked windows, computed from the definitions.
use Rattle.std.proofs.Common.{◌≡◌, Some, None, refl}
use Rattle.bus_window.specs.Windows.{bus_window, window_of_parts, entry_at}

-- ---- which there can be
-- The largest number, and the last page below 2 ^ 60.
top_window :
    window_of_parts 0xFFFFFFFF 0xFFFFFFFFFFFF000 1
    ≡ Some (bus_window 0xFFFFFFFF 0xFFFFFFFFFFFF000 1)
top_window = refl

-- A number of 33 bits.
long_number : window_of_parts 0x100000000 0 1 ≡ None
long_number = refl

-- A base in a page.
crooked_base : window_of_parts 1 0x800 1 ≡ None
crooked_base = refl

-- No page, and one more than 16,384.
no_page : window_of_parts 1 0 0 ≡ None
no_page = refl

most_pages : window_of_parts 1 0 0x4000 ≡ Some (bus_window 1 0 0x4000)
most_pages = refl

too_many_pages : window_of_parts 1 0 0x4001 ≡ None
too_many_pages = refl

-- Two pages of which the second ends above 2 ^ 60.
past_top : window_of_parts 1 0xFFFFFFFFFFFF000 2 ≡ None
past_top = refl

-- ---- addresses
-- The bytes around two pages from 0x10000 on.
below : entry_at (bus_window 1 0x10000 2) 0xFFFF ≡ None
below = refl

first_byte : entry_at (bus_window 1 0x10000 2) 0x10000 ≡ Some 0
first_byte = refl

last_byte : entry_at (bus_window 1 0x10000 2) 0x11FFF ≡ Some 1
last_byte = refl

beyond : entry_at (bus_window 1 0x10000 2) 0x12000 ≡ None
beyond = refl
