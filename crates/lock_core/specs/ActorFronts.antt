-- The fronts of actors along a list of steps: for each actor and entry, the pair that it has come
-- to.
use Rattle.std.specs.Prelude.{ℕ, List, [], ◌∷◌, length, replicate, slice_index_or, slice_set, if◌then◌else◌, Option, Some, None}
use Rattle.entry_model.specs.declared.receipt.Receipt.{Receipt}
use Rattle.entry_model.specs.Fronts.{opening_fronts, fronts_after, larger}
use Rattle.lock_core.specs.declared.step.Step.{Step}
use Rattle.lock_core.specs.declared.step.Step.TheVariants.{Split, Join}
use Rattle.lock_core.specs.Machine.{Machine}
use Rattle.lock_core.specs.Steps.{is_allowed, made_by}
use Rattle.lock_core.specs.Runs.{run}

-- The fronts of one actor.
abbrev pub fronts_of : List (List ℕ) → ℕ → List ℕ
fronts_of fronts i = slice_index_or fronts i []

-- After a receipt that an actor made.
abbrev pub fronts_raised_by : List (List ℕ) → ℕ → Option Receipt → List (List ℕ)
fronts_raised_by fronts i None = fronts
fronts_raised_by fronts i (Some r) = slice_set fronts i (fronts_after (fronts_of fronts i) r)

-- After a step: a split gives the other actor its parent's fronts, and after a join the larger one
-- of each entry counts.
unfoldable pub fronts_after_step : Machine → List (List ℕ) → ℕ → Step → List (List ℕ)
fronts_after_step m fronts i (Split to) =
    if is_allowed m i (Split to) then slice_set fronts to (fronts_of fronts i) else fronts
fronts_after_step m fronts i (Join from) =
    if is_allowed m i (Join from)
    then slice_set fronts i (larger (fronts_of fronts i) (fronts_of fronts from))
    else fronts
fronts_after_step m fronts i step = fronts_raised_by fronts i (made_by m i step)

-- After steps, of which the newest stands first. Before all steps they are those of the opening
-- states.
unfoldable pub run_fronts : Machine → List (ℕ × Step) → List (List ℕ)
run_fronts m [] = replicate (length m.actors) (opening_fronts m.opening)
run_fronts m (s ∷ older) = fronts_after_step (run m older) (run_fronts m older) s.0 s.1
