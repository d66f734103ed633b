use Rattle.std.proofs.Common.{◌≡◌, take, true}
use Rattle.std.specs.List.{list_all}
use Rattle.lpar_set.specs.SetGrammar.{has_begun}
use Rattle.lpar_set.proofs.set_end.all_have_begun.Given as goal

abbrev pub invariant-loop-reading : goal.invariant-loop-reading
invariant-loop-reading l = list_all has_begun (take l.reading-index l.readings) ≡ true
