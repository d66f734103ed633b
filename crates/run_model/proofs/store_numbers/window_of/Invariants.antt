use Rattle.std.proofs.Common.{◌≡◌, drop}
use Rattle.run_model.specs.StoreNumbers.{index_from}
use Rattle.run_model.proofs.store_numbers.window_of.Given as goal

-- The window is looked for among those that are left.
abbrev pub invariant-loop-i : goal.invariant-loop-i
invariant-loop-i l = index_from l.i (drop l.i l.windows) l.act ≡ index_from 0 l.windows l.act
