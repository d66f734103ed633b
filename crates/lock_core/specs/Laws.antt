-- What holds over every list of steps of any actors.
use Rattle.std.specs.Prelude.{◌≡◌, ◌⊎◌, ℕ, ◌<◌, ◌^◌, List, [], ◌∷◌, ◌++◌, false, length, map, slice_index_or, Some, All, Contains, MatchOption}
use Rattle.entry_model.specs.State.{State, empty_state, IsCanonicalState}
use Rattle.entry_model.specs.declared.line.Line.{Line}
use Rattle.entry_model.specs.declared.receipt.Receipt.{Receipt}
use Rattle.entry_model.specs.CachedLines.{Holds}
use Rattle.entry_model.specs.History.{IsLegal, history}
use Rattle.entry_model.specs.Fronts.{IsAhead}
use Rattle.entry_model.specs.Run.{IsStep}
use Rattle.lock_core.specs.declared.entry.Entry.{Entry}
use Rattle.lock_core.specs.declared.sighting.Sighting.{Sighting}
use Rattle.lock_core.specs.declared.step.Step.{Step}
use Rattle.lock_core.specs.Words.{state_of}
use Rattle.lock_core.specs.Machine.{Machine, opening_machine, actor_at, entry_at, opening_at}
use Rattle.lock_core.specs.Steps.{made_by, after_step}
use Rattle.lock_core.specs.Runs.{run, receipts_of}
use Rattle.lock_core.specs.ActorFronts.{fronts_of, run_fronts}

-- A state as entries have it.
pub record IsFair (s : State) : Type 0 where
  pub canonical : IsCanonicalState s
  pub low : s.stamp < 2 ^ 32

-- The state that an entry counts with.
abbrev pub published_state : Machine → ℕ → State
published_state m e = (entry_at m e).published

-- ---- states
-- The states that the entries count with.
abbrev pub published_states : Machine → List State
published_states m = map (λ (x : Entry). x.published) m.entries

-- The state that an entry counts with is that of its words, unless it is shut.
abbrev pub StatesAreInWords : Type 0
StatesAreInWords =
    (states : List State) (actors : ℕ) (steps : List (ℕ × Step))
    → All IsFair states
    → (e : ℕ)
    → e < length states
    → (let x : Entry = entry_at (run (opening_machine states actors) steps) e in
    x.control.shut ≡ false → x.published ≡ state_of x.control x.dword0 x.dword1)

-- A step that makes a receipt leaves the state after instead of the state before, and every other
-- state as it is; a step that makes none leaves all states.
abbrev pub StatesChangeByReceipts : Type 0
StatesChangeByReceipts =
    (states : List State) (actors : ℕ) (older : List (ℕ × Step))
    → All IsFair states
    → (i : ℕ) (step : Step)
    → (let m : Machine = run (opening_machine states actors) older in
    MatchOption
    (made_by m i step)
    (published_states (after_step m i step) ≡ published_states m)
    (λ r. IsStep (published_states m) r (published_states (after_step m i step))))

-- ---- histories
-- Each entry's history over the receipts of all actors leads from its opening state to the state
-- that it counts with.
abbrev pub EveryHistoryIsLegal : Type 0
EveryHistoryIsLegal =
    (states : List State) (actors : ℕ) (steps : List (ℕ × Step))
    → All IsFair states
    → (e : ℕ)
    → e < length states
    → IsLegal
    (slice_index_or states e (empty_state 0))
    (history e (receipts_of (run (opening_machine states actors) steps).actors))
    (published_state (run (opening_machine states actors) steps) e)

-- ---- fronts
-- A receipt that a step makes isn't before the front of its actor.
abbrev pub EveryReceiptKeepsItsFront : Type 0
EveryReceiptKeepsItsFront =
    (states : List State) (actors : ℕ) (older : List (ℕ × Step))
    → All IsFair states
    → (i : ℕ) (step : Step) (r : Receipt)
    → made_by (run (opening_machine states actors) older) i step ≡ Some r
    → IsAhead (fronts_of (run_fronts (opening_machine states actors) older) i) r

-- The receipt that a step makes stands after those that its actor has made before.
abbrev pub EveryReceiptIsListed : Type 0
EveryReceiptIsListed =
    (m : Machine) (i : ℕ) (step : Step) (r : Receipt)
    → made_by m i step ≡ Some r
    → (actor_at (after_step m i step) i).receipts ≡ (actor_at m i).receipts ++ r ∷ []

-- ---- lines
-- The line without its page.
abbrev pub sighting_by : Line → Sighting
sighting_by line = record {
  entry = line.entry;
  stamp = line.stamp;
  dword0 = line.dword0;
  dword1 = line.dword1;
}

-- The actor has seen the line: it is one of its list, or holds of its entry's opening state.
abbrev pub HasSeen : Machine → ℕ → Line → Type 0
HasSeen m i line =
    Contains (actor_at m i).lines (sighting_by line) ⊎ Holds line (opening_at m line.entry)

-- Each line that an actor has seen holds of its entry.
abbrev pub SeenLinesHold : Type 0
SeenLinesHold =
    (states : List State) (actors : ℕ) (steps : List (ℕ × Step))
    → All IsFair states
    → (i : ℕ) (line : Line)
    → line.entry < length states
    → HasSeen (run (opening_machine states actors) steps) i line
    → Holds line (published_state (run (opening_machine states actors) steps) line.entry)
