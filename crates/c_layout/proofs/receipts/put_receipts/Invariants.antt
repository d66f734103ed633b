use Rattle.std.proofs.Common.{◌≡◌, ◌++◌, map, take, drop}
use Rattle.c_layout.specs.Slots.{shown_receipt}
use Rattle.c_layout.proofs.receipts.put_receipts.Given as goal

abbrev pub invariant-loop-i : goal.invariant-loop-i
invariant-loop-i l = l.slots ≡ take l.i (map shown_receipt l.made) ++ drop l.i l.initial.slots
