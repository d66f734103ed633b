-- The marks of a line: what its text shows of each receipt.
use Rattle.std.specs.Prelude.{◌≡◌, ℕ, ◌<◌, ◌≤◌, ◌^◌, ◌==◌, ◌&&◌, Bool, false, List, [], ◌∷◌, length, drop, Option, Some, None, MatchOption, if◌then◌else◌}
use Rattle.std.specs.List.{AllByRecursion, flat_map}
use Rattle.receipt_text.specs.declared.mark.Mark.{Mark}
use Rattle.receipt_text.specs.Receipts.{mark_text}

-- A space, with a bar first in what follows it.
abbrev pub is_bar : ℕ → List ℕ → Bool
is_bar c [] = false
is_bar c (d ∷ ds) = (c == 32) && (d == 124)

-- What follows the first space and bar of a line.
abbrev pub behind_bar : List ℕ → Option (List ℕ)
behind_bar [] = None
behind_bar (c ∷ cs) = if is_bar c cs then Some (drop 1 cs) else behind_bar cs

-- The numbers of a mark are in their ranges.
pub record IsMark (m : Mark) : Type 0 where
  pub entry : m.entry < 2 ^ 32
  pub stamp : m.stamp < 2 ^ 32
  pub bits : m.bits < 4

-- 1 to 16 marks in their spelling, and nothing else.
pub record AreSpelt (rest : List ℕ) (ms : List Mark) : Type 0 where
  pub some : 1 ≤ length ms
  pub most : length ms ≤ 16
  pub marks : AllByRecursion IsMark ms
  pub text : rest ≡ flat_map mark_text ms

-- The marks of a line; a line without a space and bar has none.
abbrev pub HasMarks : List ℕ → List Mark → Type 0
HasMarks line ms = MatchOption (behind_bar line) (ms ≡ []) (λ rest. AreSpelt rest ms)
