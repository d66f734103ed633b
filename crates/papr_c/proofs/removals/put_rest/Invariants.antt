use Rattle.std.proofs.Common.{◌≡◌, ◌-◌, take, drop}
use Rattle.c_layout.specs.Slots.{placed}
use Rattle.papr_c.proofs.removals.put_rest.Given as goal

abbrev pub invariant-loop-i : goal.invariant-loop-i
invariant-loop-i l =
    l.words ≡ placed l.initial.words l.first (take (l.i - l.first) (drop l.first l.pairs))
