use Rattle.std.proofs.Common.{◌≡◌, ◌+◌, ◌*◌, ◌≤◌, ◌++◌, take, string_bytes, string_len, string_capacity}
use Rattle.std.specs.List.{flat_map}
use Rattle.receipt_text.specs.Receipts.{receipt_text}
use Rattle.receipt_text.proofs.receipts.put_receipts.Given as goal

abbrev pub invariant-loop-receipt : goal.invariant-loop-receipt
invariant-loop-receipt l = record {
  told :
      string_bytes l.out
      ≡ string_bytes l.initial.out ++ flat_map receipt_text (take l.receipt-index l.receipts);
  short : string_len l.out ≤ string_len l.initial.out + 34 * l.receipt-index;
  capacity : string_capacity l.initial.out ≤ string_capacity l.out;
}
