use Rattle.std.proofs.Common.{◌≡◌}
use Rattle.c_layout.specs.Slots.{placed}
use Rattle.papr_c.specs.Tried.{words_of_entries}
use Rattle.c_layout.specs.Entries.{states_of}
use Rattle.papr_c.proofs.read.put_doublewords.Given as goal

abbrev pub invariant-loop-i : goal.invariant-loop-i
invariant-loop-i l =
    l.slots ≡ placed l.initial.slots 0 (words_of_entries (states_of l.entries) l.first l.i)
