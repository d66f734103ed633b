use Rattle.std.proofs.Common.{◌≡◌}
use Rattle.entry_model.specs.State.{empty_state}
use Rattle.c_layout.specs.Entries.{entry_with}
use Rattle.papr_c.proofs.Ranges.{between}
use Rattle.papr_c.proofs.rehashing.clear.Given as goal

abbrev pub invariant-loop-i : goal.invariant-loop-i
invariant-loop-i l =
    l.entries ≡ between (λ e. entry_with e (empty_state 0)) l.first l.i l.initial.entries
