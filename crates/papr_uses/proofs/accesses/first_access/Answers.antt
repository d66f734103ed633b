use Rattle.std.proofs.Common.{ap}
use Rattle.entry_model.specs.declared.access_reply.AccessReply.{AccessReply}
use Rattle.papr_uses.proofs.NoSegment.{nothing_made, replied}
use Rattle.papr_uses.proofs.accesses.first_access.Goals as goal
use Rattle.tlb_model.proofs.CachedPages.{all_empty}

pub access-requires : goal.access-requires
access-requires c = record { seen = rw c.new.ensures.cache (all_empty _) }

pub returns-clause-outcome : goal.returns-clause-outcome
returns-clause-outcome c =
    ap (λ (r : AccessReply). r.outcome)
    (replied _ _ _ _ _ _ c.new.ensures.slots c.access.ensures.reply)

pub returns-clause-receipts : goal.returns-clause-receipts
returns-clause-receipts c =
    ap (λ (r : AccessReply). r.receipts)
    (replied _ _ _ _ _ _ c.new.ensures.slots c.access.ensures.reply)

pub returns-clause-same : goal.returns-clause-same
returns-clause-same c =
    nothing_made _ _ _
    (ap (λ (r : AccessReply). r.receipts)
    (replied _ _ _ _ _ _ c.new.ensures.slots c.access.ensures.reply))
    c.access.ensures.made.run
