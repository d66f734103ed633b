use Rattle.std.proofs.Common.{◌≡◌, take}
use Rattle.c_layout.specs.Entries.{states_of}
use Rattle.papr_shared.proofs.opening.listed.Given as goal

abbrev pub invariant-loop-i : goal.invariant-loop-i
invariant-loop-i l = l.states.items ≡ states_of (take l.i l.entries)
