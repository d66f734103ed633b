use Rattle.run_model.proofs.RefusedWindows.{refused_window_lines_leave}
use Rattle.run_model.proofs.laws.refused_window_lines_change_nothing.Goals as goal

pub returns : goal.returns
returns c = refused_window_lines_leave
