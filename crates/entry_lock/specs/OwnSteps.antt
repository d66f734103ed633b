-- The machine's steps: those of one actor among the steps of all.
use Rattle.std.specs.Prelude.{◌≡◌, ℕ, ◌==◌, if◌then◌else◌, Bool, true, false, List, [], ◌∷◌}
use Rattle.lock_core.specs.declared.step.Step.{Step}
use Rattle.lock_core.specs.declared.step.Step.TheVariants.{Split}
use Rattle.lock_core.specs.Machine.{Machine}
use Rattle.lock_core.specs.Steps.{is_allowed}
use Rattle.lock_core.specs.Runs.{run}

-- The step makes this actor live.
abbrev pub starts : ℕ → Step → Bool
starts n (Split to) = to == n
starts n step = false

-- The steps that an actor took since it was split off. In both lists the newest stands first.
abbrev pub steps_by : ℕ → List (ℕ × Step) → List Step
steps_by n [] = []
steps_by n (s ∷ older) =
    if starts n s.1
    then []
    else (if s.0 == n then s.1 ∷ steps_by n older else steps_by n older)

-- From this machine on, each of the steps was allowed where it was taken.
abbrev pub AreAllowed : Machine → List (ℕ × Step) → Type 0
AreAllowed m [] = Unit {0}
AreAllowed m (s ∷ older) = (is_allowed (run m older) s.0 s.1 ≡ true) × AreAllowed m older
