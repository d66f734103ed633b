-- The lines of an input, and the words of a line.
use Rattle.std.specs.Prelude.{ℕ, ◌-◌, ◌==◌, ◌&&◌, ◌||◌, Bool, true, List, [], ◌∷◌, length, take, map, filter, not, if◌then◌else◌, nat_le, slice_index}
use Rattle.std.specs.List.{slice_split}
use Rattle.std.specs.Borrow.{Bor}

-- The byte ends a line.
abbrev pub is_lf : ℕ → Bool
is_lf c = c == 10

-- A list without its last element, where that is the given one.
abbrev pub without_last : ℕ → List ℕ → List ℕ
without_last c bytes =
    if slice_index bytes (length bytes - 1) == c then take (length bytes - 1) bytes else bytes

-- A line ends at LF or at the end of the input, and after the last LF there is none.
abbrev pub raw_lines : List ℕ → List (List ℕ)
raw_lines [] = []
raw_lines (c ∷ cs) = slice_split is_lf (without_last 10 (c ∷ cs))

-- One CR at a line's end is dropped.
abbrev pub without_cr : List ℕ → List ℕ
without_cr line = without_last 13 line

-- Tab, and space to tilde.
abbrev pub is_printable : ℕ → Bool
is_printable c = (c == 9) || (nat_le 32 c && nat_le c 126)

-- Space and tab.
abbrev pub is_blank : ℕ → Bool
is_blank c = (c == 9) || (c == 32)

-- The words of a line: what is between blanks, where anything is.
abbrev pub words_of : List ℕ → List (List ℕ)
words_of line = filter (λ w. not (length w == 0)) (slice_split is_blank line)

-- A line without words, or whose first word begins with `#`.
abbrev pub is_remark : List (List ℕ) → Bool
is_remark [] = true
is_remark (w ∷ ws) = slice_index w 0 == 35

-- What references to words point to.
abbrev pub texts : List (Bor (List ℕ)) → List (List ℕ)
texts ws = map (λ w. w.now) ws
