use Rattle.std.proofs.Common.{rules}
use Rattle.hpte_fields.proofs.Again.{normal_again}
use Rattle.hpte_fields.proofs.stored.normal.Goals as goal

pub returns-clause-again : goal.returns-clause-again
returns-clause-again c = normal_again c.args.pteh c.args.ptel _ c.ranges.pteh.fits (search rules)
