-- What is left of an input while its lines are read.
use Rattle.std.specs.Prelude.{ℕ, ◌+◌, List, [], length, Option, Some, None}
use Rattle.std.specs.List.{slice_split}
use Rattle.std.specs.Borrow.{Bor}
use Rattle.trace_read.specs.TextLines.{is_lf}

-- The lines in the rest.
abbrev pub parts_left : Option (Bor (List ℕ)) → List (List ℕ)
parts_left None = []
parts_left (Some rest) = slice_split is_lf rest.now

-- One more than the bytes that are left.
abbrev pub rest_size : Option (Bor (List ℕ)) → ℕ
rest_size None = 0
rest_size (Some rest) = length rest.now + 1
