use Rattle.std.proofs.Common.{◌≡◌, true, take}
use Rattle.receipt_text.specs.Cuts.{lacks}
use Rattle.receipt_text.proofs.cuts.split_at.Given as goal

abbrev pub invariant-loop-i : goal.invariant-loop-i
invariant-loop-i l = lacks l.byte (take l.i l.text) ≡ true
