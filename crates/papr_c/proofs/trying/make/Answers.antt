use Rattle.std.proofs.Common.{ap, ◌∙◌}
use Rattle.entry_model.specs.Receipt.{receipt_of}
use Rattle.papr_c.proofs.LentEntries.{state_read}
use Rattle.papr_c.proofs.trying.make.Goals as goal

pub returns-clause-receipt : goal.returns-clause-receipt
returns-clause-receipt c =
    c.asked-receipt.ensures.receipt
    ∙ ap (λ s. receipt_of c.args.entry s c.args.op.now)
    (state_read c.args.entries.now c.args.entry c.index-entries-entry.result c.state-before.result
    c.requires c.state-before.ensures)
