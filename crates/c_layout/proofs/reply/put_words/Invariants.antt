use Rattle.std.proofs.Common.{◌≡◌, take}
use Rattle.c_layout.specs.Slots.{placed}
use Rattle.c_layout.proofs.reply.put_words.Given as goal

abbrev pub invariant-loop-i : goal.invariant-loop-i
invariant-loop-i l = l.slots ≡ placed l.initial.slots 0 (take l.i l.made)
