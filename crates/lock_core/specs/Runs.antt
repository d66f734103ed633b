-- Lists of steps: the machine after them, and the receipts of all its actors.
use Rattle.std.specs.Prelude.{ℕ, List, [], ◌∷◌, ◌++◌}
use Rattle.entry_model.specs.declared.receipt.Receipt.{Receipt}
use Rattle.lock_core.specs.declared.step.Step.{Step}
use Rattle.lock_core.specs.Machine.{Actor, Machine}
use Rattle.lock_core.specs.Steps.{after_step}

-- The machine after steps of actors, of which the newest stands first.
unfoldable pub run : Machine → List (ℕ × Step) → Machine
run m [] = m
run m (s ∷ older) = after_step (run m older) s.0 s.1

-- The receipts of all actors, actor by actor.
abbrev pub receipts_of : List Actor → List Receipt
receipts_of [] = []
receipts_of (a ∷ rest) = a.receipts ++ receipts_of rest
