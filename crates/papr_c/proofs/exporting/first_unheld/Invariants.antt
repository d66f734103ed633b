use Rattle.std.proofs.Common.{◌≡◌, ◌+◌, ◌<◌, false, ℕ}
use Rattle.entry_model.specs.Run.{state_at}
use Rattle.papr_c.specs.Transfers.{is_unheld}
use Rattle.c_layout.specs.Entries.{states_of}
use Rattle.papr_c.proofs.exporting.first_unheld.Given as goal

abbrev pub invariant-loop-i : goal.invariant-loop-i
invariant-loop-i l =
    (k : ℕ) → k < l.i → is_unheld l.layout (state_at (states_of l.entries) (l.first + k)) ≡ false
