use Rattle.std.proofs.Common.{◌≡◌, ◌≤◌, ◌++◌, length}
use Rattle.std.specs.List.{AllByRecursion, flat_map}
use Rattle.receipt_text.specs.Cuts.{words_left}
use Rattle.receipt_text.specs.Marks.{IsMark}
use Rattle.receipt_text.specs.Receipts.{mark_text}
use Rattle.receipt_text.proofs.marks.spelt_marks.Given as goal

-- The marks so far and the words that are left are the text.
abbrev pub invariant-loop-rest : goal.invariant-loop-rest
invariant-loop-rest l = record {
  some : length (words_left l.rest) ≡ 0 → 1 ≤ length l.marks;
  most : length l.marks ≤ 16;
  marks : AllByRecursion IsMark l.marks;
  told : l.text ≡ flat_map mark_text l.marks ++ words_left l.rest;
}

abbrev pub decreases-loop-rest : goal.decreases-loop-rest
decreases-loop-rest l = length (words_left l.rest)
