-- Worked values, which the checker computes.
use Rattle.std.proofs.Common.{◌≡◌, ℕ, true, false, List, [], ◌∷◌, Some, None, refl, length}
use Rattle.power_addr.specs.Pages.{VirtualPage, virtual_page, same_page}
use Rattle.entry_model.specs.declared.line.Line.{Line}
use Rattle.tlb_model.specs.Cache.{cached_line, empty_cache, set_number, without_page, put_last}
use Rattle.tlb_model.specs.Sets.{with_set}

-- Pages of 4 KB in the segment 1 of 256 MB.
abbrev small_page : ℕ → VirtualPage
small_page index = virtual_page false 1 12 index

abbrev line_by : ℕ → ℕ → Line
line_by index entry =
    record { page = small_page index; entry = entry; stamp = 1; dword0 = 0x1001; dword1 = 0x3012 }

-- ---- pages
one_page : same_page (small_page 5) (small_page 5) ≡ true
unfolding same_page
one_page = refl

other_index : same_page (small_page 5) (small_page 37) ≡ false
unfolding same_page
other_index = refl

other_segment_size : same_page (small_page 5) (virtual_page true 1 12 5) ≡ false
unfolding same_page
other_segment_size = refl

other_segment : same_page (small_page 5) (virtual_page false 2 12 5) ≡ false
unfolding same_page
other_segment = refl

other_page_size : same_page (small_page 5) (virtual_page false 1 16 5) ≡ false
unfolding same_page
other_page_size = refl

same_set : set_number (small_page 0x85) ≡ set_number (small_page 5)
same_set = refl

-- ---- sets
count_of_sets : length empty_cache ≡ 32
unfolding empty_cache
count_of_sets = refl

-- The first that was filled goes.
five_lines :
    put_last (line_by 0x85 5)
    (line_by 0x5 1 ∷ line_by 0x25 2 ∷ line_by 0x45 3 ∷ line_by 0x65 4 ∷ [])
    ≡ line_by 0x25 2 ∷ line_by 0x45 3 ∷ line_by 0x65 4 ∷ line_by 0x85 5 ∷ []
five_lines = refl

four_lines :
    put_last (line_by 0x65 4) (line_by 0x5 1 ∷ line_by 0x25 2 ∷ line_by 0x45 3 ∷ [])
    ≡ line_by 0x5 1 ∷ line_by 0x25 2 ∷ line_by 0x45 3 ∷ line_by 0x65 4 ∷ []
four_lines = refl

one_goes :
    without_page (small_page 0x25) (line_by 0x5 1 ∷ line_by 0x25 2 ∷ line_by 0x45 3 ∷ [])
    ≡ line_by 0x5 1 ∷ line_by 0x45 3 ∷ []
unfolding same_page
one_goes = refl

-- ---- a cache
one_line : List (List Line)
one_line = with_set (small_page 0x25) (line_by 0x25 2 ∷ []) empty_cache

found : cached_line one_line (small_page 0x25) ≡ Some (line_by 0x25 2)
unfolding cached_line same_page empty_cache one_line
found = refl

not_of_the_page : cached_line one_line (small_page 0x5) ≡ None
unfolding cached_line same_page empty_cache one_line
not_of_the_page = refl

-- The last of the 32 sets is there.
last_set :
    cached_line (with_set (small_page 31) (line_by 31 1 ∷ []) empty_cache) (small_page 31)
    ≡ Some (line_by 31 1)
unfolding cached_line same_page empty_cache
last_set = refl
