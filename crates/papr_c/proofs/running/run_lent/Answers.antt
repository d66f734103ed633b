use Rattle.papr_c.proofs.Outcomes.{coded}
use Rattle.c_layout.proofs.Marks.{marked_none}
use Rattle.papr_c.proofs.running.run_lent.Goals as goal

pub returns-in-Code-clause-told : goal.returns-in-Code-clause-told
returns-in-Code-clause-told c =
    rw (c.answered.ensures, c.in-Code.is) (coded _ _ _ c.requires.table)

pub returns-in-Code-clause-marks : goal.returns-in-Code-clause-marks
returns-in-Code-clause-marks c = marked_none c.args.entries.now
