use Rattle.std.proofs.Common.{◌≡◌, replicate, None}
use Rattle.lpar_set.proofs.set_reader.no_readings.Given as goal

abbrev pub invariant-loop-i : goal.invariant-loop-i
invariant-loop-i l = l.readings.items ≡ replicate l._i None
