use Rattle.std.proofs.Common.{◌≡◌, ◌∙◌, ap, arith, append_assoc, append-nil}
use Rattle.std.proofs.lemmas.List.{drop_all}
use Rattle.entry_model.specs.declared.receipt.Receipt.{Receipt}
use Rattle.number_text.proofs.Lengths.{decimal_short, hex_short}
use Rattle.receipt_text.proofs.receipts.write_receipt.Goals as goal

pub write_digits-stamp-requires : goal.write_digits-stamp-requires
write_digits-stamp-requires c =
    let long = decimal_short c.from.result (omega arith) in
    (omega arith, omega arith)

pub write_piece-point-requires-clause-room : goal.write_piece-point-requires-clause-room
write_piece-point-requires-clause-room c =
    let long = decimal_short c.from.result (omega arith) in
    omega arith

pub write_hexadecimal-entry-requires-clause-room : goal.write_hexadecimal-entry-requires-clause-room
write_hexadecimal-entry-requires-clause-room c =
    let long = decimal_short c.from.result (omega arith) in
    omega arith

pub write_piece-requires-clause-room : goal.write_piece-requires-clause-room
write_piece-requires-clause-room c =
    omega
    (arith, decimal_short c.from.result (omega arith), hex_short c.from-2.result (omega arith))

pub returns-clause-written : goal.returns-clause-written
returns-clause-written c =
    let stamp : c.from.result ≡ c.args.receipt.now.before.stamp = c.from.ensures ∙ ap
    (λ (r : Receipt). r.before.stamp) c.receipt.view_is in
    let entry : c.from-2.result ≡ c.args.receipt.now.entry = c.from-2.ensures ∙ ap
    (λ (r : Receipt). r.entry) c.receipt.view_is in
    rw (
      c.write_piece.ensures.written,
      c.write_hexadecimal-entry.ensures.written,
      c.write_piece-point.ensures.written,
      c.write_digits-stamp.ensures.written,
      c.write_piece-bits.ensures.written,
      c.write_piece-word.ensures.written,
      drop_all 48 c.args.text.now (omega arith),
      append-nil,
      c.word_of.ensures.value,
      c.bits.ensures.value,
      stamp,
      entry,
    ) (simp append_assoc)

pub returns-clause-short : goal.returns-clause-short
returns-clause-short c =
    omega
    (arith, decimal_short c.from.result (omega arith), hex_short c.from-2.result (omega arith))
