use Rattle.std.proofs.Common.{◌∙◌}
use Rattle.hpt_pool.specs.Pool.{no_blocks}
use Rattle.lpar_set.proofs.SetSteps.{opened_keeps}
use Rattle.lpar_set.proofs.members.Members.open.Goals as goal

pub invariant_of-result : goal.invariant_of-result
invariant_of-result c =
    opened_keeps c.args.set.now c.in_ok-pool.pool c.open_members.new.pool c.partitions.result.now
    c.in_ok-members.members.items c.keeps_limits.ensures
    (c.in_ok-pool.ensures ∙ (λ i. no_blocks (c.pool.ensures.base i) (c.pool.ensures.order i)))
    c.partitions.ensures c.in_ok-members.ensures.members c.in_ok-members.ensures.pool
