use Rattle.std.proofs.Common.{◌∙◌, ap, sym}
use Rattle.entry_model.specs.declared.hreply.HReply.{HReply}
use Rattle.partition.specs.PartitionState.{PartitionState}
use Rattle.papr_uses.proofs.Committed.{commit_order}
use Rattle.papr_uses.proofs.resizing.resize.Goals as goal

pub returns-in-Success-clause-order : goal.returns-in-Success-clause-order
returns-in-Success-clause-order c = λ done.
    ap (λ (p : PartitionState). p.memory.table.order) c.commit.ensures.after
    ∙ commit_order _ _ (sym (ap (λ (r : HReply). r.rc) c.commit.ensures.reply) ∙ done)
