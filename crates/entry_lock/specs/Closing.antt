-- What holds when a table closes: a run of the machine made the pass's receipts and left the
-- closing states.
use Rattle.std.specs.Prelude.{◌≡◌, ℕ, ◌<◌, List, length}
use Rattle.entry_model.specs.State.{State}
use Rattle.entry_model.specs.declared.line.Line.{Line}
use Rattle.entry_model.specs.CachedLines.{Holds}
use Rattle.entry_model.specs.History.{IsLegal, history}
use Rattle.entry_model.specs.Fronts.{IsGone}
use Rattle.entry_model.specs.Run.{state_at}
use Rattle.lock_core.specs.declared.step.Step.{Step}
use Rattle.lock_core.specs.Machine.{opening_machine}
use Rattle.lock_core.specs.Runs.{run, receipts_of}
use Rattle.lock_core.specs.Laws.{published_state}
use Rattle.entry_lock.specs.declared.rule.View.{View}
use Rattle.entry_lock.specs.Views.{first_number}
use Rattle.entry_lock.specs.OwnSteps.{steps_by, AreAllowed}
use Rattle.entry_lock.specs.SeenLines.{IsSeen}

-- A run of the machine from the opening states, by as many actors as there are shares, makes just
-- the receipts of the pass and leaves the closing states. Each of its steps was allowed, and those
-- of the pass's actor are the ones that the pass took.
abbrev pub SomeRunMakes : List State → View → List State → Type 0
SomeRunMakes opening v closing = (steps : List (ℕ × Step))
    × AreAllowed (opening_machine opening v.passes) steps
    × (steps_by (first_number v.numbers) steps ≡ v.taken)
    × (receipts_of (run (opening_machine opening v.passes) steps).actors ≡ v.actor.receipts)
    × ((e : ℕ) → e < length opening
    → published_state (run (opening_machine opening v.passes) steps) e ≡ state_at closing e)

-- The receipts of the pass are all that the table's run made: those of each entry lead from its
-- opening to its closing state. Each line that the pass has seen holds of its entry's closing
-- state, and each line that is gone for it has a lower stamp.
pub record Closes (opening : List State) (v : View) (closing : List State) : Type 0 where
  pub size : length closing ≡ length opening
  pub all : SomeRunMakes opening v closing
  pub legal :
      (e : ℕ) → e < length opening
      → IsLegal (state_at opening e) (history e v.actor.receipts) (state_at closing e)
  pub seen :
      (cached : Line) → cached.entry < length opening → IsSeen v.actor.lines opening cached
      → Holds cached (state_at closing cached.entry)
  pub gone :
      (cached : Line) → cached.entry < length opening → IsGone v.fronts cached
      → cached.stamp < (state_at closing cached.entry).stamp
