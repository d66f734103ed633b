use Rattle.std.specs.Prelude.{flat_map}
use Rattle.std.proofs.Common.{◌≡◌, ◌*◌, length, take}
use Rattle.call_plan.specs.Single.{both_words}
use Rattle.call_plan.proofs.telling.words_read.Given as goal

-- The words so far are those of the receipts before this one.
abbrev pub invariant-loop-receipt : goal.invariant-loop-receipt
invariant-loop-receipt l = record {
  room : length l.words ≡ 2 * l.receipt-index;
  words : l.words ≡ flat_map both_words (take l.receipt-index l.receipts);
}
