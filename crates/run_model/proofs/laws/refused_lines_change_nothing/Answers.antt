use Rattle.run_model.proofs.RefusedLines.{refused_lines_leave}
use Rattle.run_model.proofs.laws.refused_lines_change_nothing.Goals as goal

pub returns : goal.returns
returns c = refused_lines_leave
