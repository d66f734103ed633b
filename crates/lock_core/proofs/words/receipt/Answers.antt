use Rattle.std.proofs.Common.{refl}
use Rattle.entry_model.proofs.Exact.{same}
use Rattle.lock_core.specs.Words.{receipt, noted_state}
use Rattle.lock_core.proofs.words.receipt.Goals as goal

pub returns : goal.returns
unfolding receipt
returns c =
    same _ c.args.doing.now.entry (noted_state c.args.doing.now) c.args.doing.now.op refl
    c.noted_state-before.ensures refl
