use Rattle.hpt_walk.proofs.Offsets.{masked, masked_small}
use Rattle.hpt_walk.proofs.logical.offset.Goals as goal

pub returns-clause-value : goal.returns-clause-value
returns-clause-value c = masked c.args.ea c.args.actual c.requires

pub returns-clause-small : goal.returns-clause-small
returns-clause-small c = masked_small c.args.ea c.args.actual c.requires
