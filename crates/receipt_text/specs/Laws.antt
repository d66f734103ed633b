-- What is proved of marks: a line has those of its receipts, and one list of them at most.
use Rattle.std.specs.Prelude.{◌≡◌, ℕ, ◌≤◌, true, List, ◌++◌, length, map}
use Rattle.std.specs.List.{AllByRecursion}
use Rattle.entry_model.specs.declared.receipt.Receipt.{Receipt}
use Rattle.receipt_text.specs.declared.mark.Mark.{Mark}
use Rattle.receipt_text.specs.Receipts.{mark_of, receipts_text}
use Rattle.receipt_text.specs.Cuts.{lacks}
use Rattle.receipt_text.specs.Marks.{HasMarks, IsMark}

-- A line that has no bar before its receipts, of which there are at most 16, has their marks.
abbrev pub ReceiptsAreReadBack : Type 0
ReceiptsAreReadBack =
    (front : List ℕ) (rs : List Receipt)
    → lacks 124 front ≡ true
    → length rs ≤ 16
    → AllByRecursion IsMark (map mark_of rs)
    → HasMarks (front ++ receipts_text rs) (map mark_of rs)

-- A line has one list of marks at most.
abbrev pub MarksAreReadOnce : Type 0
MarksAreReadOnce =
    (line : List ℕ) (ms ns : List Mark) → HasMarks line ms → HasMarks line ns → ms ≡ ns
