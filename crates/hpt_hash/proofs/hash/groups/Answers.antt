use Rattle.std.proofs.Common.{◌∙◌, sym, arith}
use Rattle.hpt_hash.proofs.GroupBits.{primary-computed, secondary-computed, group_of-apart}
use Rattle.hpt_hash.proofs.hash.groups.Goals as goal

pub returns-clause-primary : goal.returns-clause-primary
returns-clause-primary c =
    primary-computed c.args.page.now c.args.order c.hash-hash.result c.requires.order_high
    c.hash-hash.ensures

pub returns-clause-secondary : goal.returns-clause-secondary
returns-clause-secondary c =
    secondary-computed c.args.page.now c.args.order c.hash-hash.result c.requires.order_high
    c.hash-hash.ensures

pub returns-clause-apart : goal.returns-clause-apart
returns-clause-apart c =
    λ same.
    group_of-apart c.args.page.now c.args.order (omega arith)
    (sym (returns-clause-primary c) ∙ same ∙ returns-clause-secondary c)
