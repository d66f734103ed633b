use Rattle.history_check.proofs.FirstLines.{none_lacks, first_lacks, first_parts}
use Rattle.history_check.proofs.reading.first_reply.Goals as goal

pub returns-in-None-clause-none : goal.returns-in-None-clause-none
returns-in-None-clause-none c = none_lacks 10 c.args.text.now c.in-None.ensures

pub returns-in-Some-clause-lacks : goal.returns-in-Some-clause-lacks
returns-in-Some-clause-lacks c = first_lacks 10 c.in-Some.end c.args.text.now c.in-Some.ensures

pub returns-in-Some-clause-parts : goal.returns-in-Some-clause-parts
returns-in-Some-clause-parts c = first_parts 10 c.in-Some.end c.args.text.now c.in-Some.ensures
