use Rattle.std.proofs.Common.{◌-◌, ◌∙◌, length, arith}
use Rattle.dma_window.proofs.TcePlanCalls.{last_tells}
use Rattle.dma_window.proofs.tce_calls.code_by_last.Goals as goal

pub returns : goal.returns
returns c =
    c.code_of.ensures
    ∙ last_tells c.args.receipts.now (length c.args.receipts.now - 1) _ (omega (arith, c.requires))
