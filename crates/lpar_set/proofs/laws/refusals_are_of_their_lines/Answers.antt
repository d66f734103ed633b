use Rattle.lpar_set.proofs.LowestLines.{lowest_lines_come_first}
use Rattle.lpar_set.proofs.Refusals.{refusals_are_reasons}
use Rattle.lpar_set.proofs.laws.refusals_are_of_their_lines.Goals as goal

pub returns-clause-reasons : goal.returns-clause-reasons
returns-clause-reasons c = refusals_are_reasons

pub returns-clause-lowest : goal.returns-clause-lowest
returns-clause-lowest c = lowest_lines_come_first
