-- A processor's cache of translations: 32 sets of lines, each in the order of filling.
use Rattle.std.specs.Prelude.{ℕ, ◌%◌, Bool, not, if◌then◌else◌, nat_lt, List, [], ◌∷◌, ◌++◌, length, drop, filter, find, slice_index_or, replicate, Option}
use Rattle.std.specs.List.{AllByRecursion}
use Rattle.power_addr.specs.Pages.{VirtualPage, same_page}
use Rattle.entry_model.specs.declared.line.Line.{Line}

-- The line is one of the page.
abbrev pub is_of : VirtualPage → Line → Bool
is_of page line = same_page line.page page

-- ---- one set
-- The first line of the page.
abbrev pub line_of_page : VirtualPage → List Line → Option Line
line_of_page page lines = find (is_of page) lines

-- The lines of other pages.
abbrev pub without_page : VirtualPage → List Line → List Line
without_page page lines = filter (λ (line : Line). not (is_of page line)) lines

-- One line put last; of more than four the first goes.
abbrev pub put_last : Line → List Line → List Line
put_last line lines =
    if nat_lt 4 (length (lines ++ line ∷ []))
    then drop 1 (lines ++ line ∷ [])
    else lines ++ line ∷ []

-- ---- all sets
-- The number of the page's set.
abbrev pub set_number : VirtualPage → ℕ
set_number page = page.index % 32

-- The lines of the page's set.
abbrev pub set_of : List (List Line) → VirtualPage → List Line
set_of cache page = slice_index_or cache (set_number page) []

-- The line of the page that is cached.
unfoldable pub cached_line : List (List Line) → VirtualPage → Option Line
cached_line cache page = line_of_page page (set_of cache page)

-- 32 empty sets.
unfoldable pub empty_cache : List (List Line)
empty_cache = replicate 32 []

-- ---- facts of each line
-- A fact of each line of a set.
abbrev pub AllInSet : (Line → Type 0) → List Line → Type 0
AllInSet P lines = AllByRecursion P lines

-- A fact of each cached translation.
abbrev pub AllCached : (Line → Type 0) → List (List Line) → Type 0
AllCached P cache = AllByRecursion (AllInSet P) cache
