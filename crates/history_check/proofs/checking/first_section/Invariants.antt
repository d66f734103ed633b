use Rattle.std.proofs.Common.{take}
use Rattle.run_model.specs.Quiet.{NoneQuiet}
use Rattle.history_check.proofs.checking.first_section.Given as goal

abbrev pub invariant-loop-i : goal.invariant-loop-i
invariant-loop-i l = NoneQuiet (take l.i l.lines)
