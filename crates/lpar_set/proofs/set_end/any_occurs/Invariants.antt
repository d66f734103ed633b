use Rattle.std.proofs.Common.{◌≡◌, take, false, is_some}
use Rattle.std.specs.List.{list_any}
use Rattle.lpar_set.proofs.set_end.any_occurs.Given as goal

abbrev pub invariant-loop-reading : goal.invariant-loop-reading
invariant-loop-reading l = list_any is_some (take l.reading-index l.readings) ≡ false
