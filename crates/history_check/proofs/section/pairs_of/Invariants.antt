use Rattle.std.proofs.Common.{◌≡◌, take}
use Rattle.entry_model.specs.Fronts.{opening_fronts}
use Rattle.history_check.proofs.Short.{LowStates}
use Rattle.history_check.proofs.section.pairs_of.Given as goal

abbrev pub invariant-loop-state : goal.invariant-loop-state
invariant-loop-state l = record {
  pairs : l.pairs.items ≡ opening_fronts (take l.state-index l.states);
  low : LowStates (take l.state-index l.states);
}
