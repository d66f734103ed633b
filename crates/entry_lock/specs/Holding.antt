-- When a pass has locked its entry and done nothing else with it.
use Rattle.std.specs.Prelude.{◌≡◌, Bool, true, false, List, ◌∷◌}
use Rattle.lock_core.specs.declared.phase.Phase.{Phase}
use Rattle.lock_core.specs.declared.phase.Phase.TheVariants.{Held}
use Rattle.lock_core.specs.declared.step.Step.{Step}
use Rattle.lock_core.specs.declared.step.Step.TheVariants.{Lock}
use Rattle.entry_lock.specs.declared.rule.View.{View}

-- The newest of the steps taken is a lock step, and an entry is held: the step took it.
abbrev pub is_by_lock : List Step → Phase → Bool
is_by_lock (Lock e op ∷ older) (Held d) = true
is_by_lock taken phase = false

-- The pass holds an entry, and the lock step by which it took it is its newest. So it has loaded no
-- word of the entry yet.
abbrev pub HasJustLocked : View → Type 0
HasJustLocked v = is_by_lock v.taken v.actor.phase ≡ true
