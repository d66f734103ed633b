-- Values that hold states of entries: a list of them takes the states of another list.
use Rattle.std.specs.Prelude.{List, [], ◌∷◌}
use Rattle.entry_model.specs.State.{State}

-- Each holder with the state at its place, by what a holder is with a state. One without a state
-- stays.
abbrev pub all_holding : {X : Type 0} → (X → State → X) → List X → List State → List X
all_holding holding [] states = []
all_holding holding (x ∷ xs) [] = x ∷ xs
all_holding holding (x ∷ xs) (s ∷ ss) = holding x s ∷ all_holding holding xs ss
