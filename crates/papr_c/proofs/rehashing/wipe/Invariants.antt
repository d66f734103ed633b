use Rattle.std.proofs.Common.{◌≡◌, ◌++◌, take, drop}
use Rattle.papr_c.specs.Rehash.{wiped_entries}
use Rattle.papr_c.proofs.rehashing.wipe.Given as goal

abbrev pub invariant-loop-i : goal.invariant-loop-i
invariant-loop-i l =
    l.entries ≡ take l.i (wiped_entries l.initial.entries) ++ drop l.i l.initial.entries
