-- The law that cached translations still hold after a call whose reply isn't stale.
use Rattle.std.specs.Prelude.{◌≡◌, ℕ, true, false, List}
use Rattle.entry_model.specs.State.{State, OnlyRaisesBits}
use Rattle.entry_model.specs.Run.{state_at}
use Rattle.entry_model.specs.Trial.{Plan, plan_run}
use Rattle.c_layout.specs.Stale.{any_stale}

-- Where no receipt of a call is of a stale answer, each entry that was valid has what it had, and R
-- and C were at most set.
abbrev pub UnstaleKeepsTranslations : Type 0
UnstaleKeepsTranslations =
    (plan : Plan) (entries : List State) (entry : ℕ)
    → any_stale (plan_run plan entries).0.receipts ≡ false
    → (state_at entries entry).valid ≡ true
    → OnlyRaisesBits (state_at entries entry) (state_at (plan_run plan entries).1 entry)
