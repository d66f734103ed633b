use Rattle.std.proofs.Common.{◌≡◌, ◌<◌, length, map, get_or, sym, ap, ◌∙◌, arith}
use Rattle.std.proofs.lemmas.List.{length-map, get_or-map, get_or_read}
use Rattle.entry_model.specs.Receipt.{blank_receipt}
use Rattle.c_layout.specs.Slots.{shown_receipt}
use Rattle.c_layout.proofs.Filling.{fill_more, fill_whole}
use Rattle.c_layout.proofs.receipts.put_receipts.Goals as goal

pub loop-i-preserved : goal.loop-i-preserved
loop-i-preserved c =
    let below : c.loop-i.i < length c.args.made.now = omega
    (arith, c.loop-i-test.true, c.min-count.ensures) in
    let in_items : c.loop-i.i < length (map shown_receipt c.args.made.now) = rw length-map below in
    let inside : c.loop-i.i < length c.args.slots.now = omega
    (arith, c.loop-i-test.true, c.min-count.ensures) in
    let read : c.index-made-i.result ≡ get_or c.args.made.now c.loop-i.i blank_receipt = get_or_read
    c.args.made.now c.loop-i.i c.index-made-i.result below c.index-made-i.is blank_receipt in
    let item :
    c.shown.result
    ≡ get_or (map shown_receipt c.args.made.now) c.loop-i.i (shown_receipt blank_receipt) =
    (c.shown.ensures ∙ ap shown_receipt read)
    ∙ sym
    (get_or-map shown_receipt c.args.made.now c.loop-i.i blank_receipt
    (shown_receipt blank_receipt) below) in
    fill_more (map shown_receipt c.args.made.now) c.args.slots.now c.loop-i.slots c.loop-i.i
    (shown_receipt blank_receipt) c.shown.result in_items inside c.loop-i.invariant item

pub returns-clause-filled : goal.returns-clause-filled
returns-clause-filled c =
    let same = length-map c.args.made.now shown_receipt in
    c.loop-i.invariant
    ∙ fill_whole (map shown_receipt c.args.made.now) c.args.slots.now c.loop-i.i
    (omega (arith, same, c.loop-i-test.false, c.loop-i.auto.i-end, c.min-count.ensures))
