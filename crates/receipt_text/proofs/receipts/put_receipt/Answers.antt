use Rattle.std.proofs.Common.{◌≡◌, ◌-◌, ◌∙◌, drop, arith, length-drop, string_bytes}
use Rattle.std.proofs.lemmas.List.{take_all}
use Rattle.std.proofs.lemmas.Str.{IsUtf8-from_ascii}
use Rattle.receipt_text.specs.Receipts.{receipt_text}
use Rattle.number_text.proofs.Prefixes.{OnOk-push_str}
use Rattle.receipt_text.proofs.ReceiptSteps.{IsAscii-receipt_text}
use Rattle.receipt_text.proofs.receipts.put_receipt.Goals as goal

pub from_utf8_unchecked-requires : goal.from_utf8_unchecked-requires
from_utf8_unchecked-requires c =
    let w = c.write_receipt-start in
    IsUtf8-from_ascii _
    (rw (
      take_all (48 - w.result) (drop w.result w.new.text)
          (omega (arith, length-drop w.result w.new.text)),
      w.ensures.written,
    ) (IsAscii-receipt_text c.args.receipt.now))

pub returns-clause-text : goal.returns-clause-text
returns-clause-text c =
    let w = c.write_receipt-start in
    let same : c.from_utf8_unchecked.result.now ≡ receipt_text c.args.receipt.now =
    c.from_utf8_unchecked.ensures ∙ take_all (48 - w.result) (drop w.result w.new.text)
    (omega (arith, length-drop w.result w.new.text)) ∙ w.ensures.written in
    OnOk-push_str c.push_str.result (string_bytes c.args.out.now) c.from_utf8_unchecked.result.now
    (string_bytes c.push_str.new.self) (receipt_text c.args.receipt.now)
    c.push_str.ensures.bytes same
