-- The rule of the table: its words and its passes' views show the machine after a list of steps.
-- Each pass knows which of these steps it took.
use Rattle.std.specs.Prelude.{◌≡◌, ◌⊎◌, ℕ, ◌+◌, ◌*◌, ◌<◌, ◌≤◌, true, false, List, [], ◌∷◌, length, slice_index, slice_get, Some, All}
use mathlib.Core.Option.{some}
use Rattle.atomic_table.specs.Table.{State as TableState}
use Rattle.entry_model.specs.History.{pair_of}
use Rattle.entry_model.specs.Fronts.{front_at}
use Rattle.lock_core.specs.declared.doing.Doing.{Doing}
use Rattle.lock_core.specs.declared.entry.Entry.{Entry}
use Rattle.lock_core.specs.declared.phase.Phase.{Phase}
use Rattle.lock_core.specs.declared.phase.Phase.TheVariants.{HeldShut, Looked}
use Rattle.lock_core.specs.declared.step.Step.{Step}
use Rattle.lock_core.specs.Words.{next_state}
use Rattle.lock_core.specs.Machine.{Actor, Machine, nobody, opening_machine, HoldsEntry}
use Rattle.lock_core.specs.Runs.{run}
use Rattle.lock_core.specs.Laws.{IsFair}
use Rattle.entry_lock.specs.declared.rule.View.{View}
use Rattle.entry_lock.specs.declared.rule.Opening.{Opening}
use Rattle.entry_lock.specs.Layout.{word_of, control_place, data_place}
use Rattle.entry_lock.specs.OwnSteps.{steps_by, AreAllowed}
use Rattle.entry_lock.specs.Views.{occurrences, total, states_of}
use lib.ListN.{get_elem?}

-- ---- views and actors
-- A pass with these numbers acts as the machine's actor of the first of them. One without a number
-- is nobody.
abbrev pub ActsAs : Machine → List ℕ → Actor → Type 0
ActsAs m [] a = a ≡ nobody
ActsAs m (n ∷ ns) a = slice_get m.actors n ≡ Some a

-- The list begins with the number.
abbrev pub IsHead : List ℕ → ℕ → Type 0
IsHead [] n = ⊥
IsHead (x ∷ xs) n = x ≡ n

-- ---- an entry, its words and its fronts
-- The three words of the entry are those of the machine's entry.
pub record WordsShow (words : List ℕ) (e : ℕ) (x : Entry) : Type 0 where
  pub control : slice_index words (control_place e) ≡ word_of x.control
  pub first : slice_index words (data_place e false) ≡ x.dword0
  pub second : slice_index words (data_place e true) ≡ x.dword1

-- Each data word that the view marks as stored is that of the state after.
pub record AreStored (v : View) (d : Doing) (x : Entry) : Type 0 where
  pub first : v.first_stored ≡ true → x.dword0 ≡ (next_state d).dword0
  pub second : v.second_stored ≡ true → x.dword1 ≡ (next_state d).dword1

-- A front isn't above the pair of the state that the entry counts with. Or another pass has shut
-- the entry, and the front isn't above the stamp that comes next.
abbrev pub FrontFits : Phase → ℕ → Entry → ℕ → Type 0
FrontFits p e x front =
    (front ≤ pair_of x.published)
    ⊎ ((x.control.shut ≡ true) × (front ≤ (x.published.stamp + 1) * 4) × ¬ HoldsEntry e p)

-- ---- the rule
-- The words and the views show this state of the machine.
pub record Shows (key : Opening) (m : Machine) (shared : List ℕ) (known : List View) : Type 0 where
  pub fair : All IsFair (states_of key)
  pub wide : length shared ≡ 3 * length (states_of key) + 1
  pub words :
      (e : ℕ) (x : Entry) → slice_get m.entries e ≡ Some x → WordsShow shared e x
  pub views : (j : ℕ) (v : View) → get_elem? known j ≡ some v → ActsAs m v.numbers v.actor
  -- a pass that has shut an entry knows which data words it has stored
  pub stored :
      (j : ℕ) (v : View) (d : Doing) (x : Entry) → get_elem? known j ≡ some v
      → v.actor.phase ≡ HeldShut d → slice_get m.entries d.entry ≡ Some x → AreStored v d x
  pub fronts :
      (j e : ℕ) (v : View) (x : Entry) → get_elem? known j ≡ some v
      → slice_get m.entries e ≡ Some x → FrontFits v.actor.phase e x (front_at v.fronts e)
  -- a pass with all shares finds the word that it noted
  pub alone :
      (j : ℕ) (v : View) (d : Doing) (x : Entry) → get_elem? known j ≡ some v
      → length v.numbers ≡ key.passes → v.actor.phase ≡ Looked d
      → slice_get m.entries d.entry ≡ Some x → x.control ≡ d.noted
  -- a pass with a number knows the opening, and has a front for each entry
  pub whole :
      (j : ℕ) (v : View) → get_elem? known j ≡ some v → 0 < length v.numbers
      → (v.passes ≡ key.passes) × (length v.fronts ≡ length (states_of key))
      × (v.opening ≡ states_of key)
  -- each number of a view is one of the machine's actors
  pub range :
      (j n : ℕ) (v : View) → get_elem? known j ≡ some v → 1 ≤ occurrences n v.numbers
      → (a : Actor) × (slice_get m.actors n ≡ Some a)
  -- each live actor is that of a view
  pub owned :
      (n : ℕ) (a : Actor) → slice_get m.actors n ≡ Some a → a.live ≡ true
      → (j : ℕ) × (v : View) × (get_elem? known j ≡ some v) × IsHead v.numbers n
  -- no number is in the views more than once
  pub apart : (n : ℕ) → total (λ v. occurrences n v.numbers) known ≤ 1
  -- the numbers are as many as there are shares
  pub shares : total (λ v. length v.numbers) known ≡ key.passes

-- The machine after steps, of which the newest stands first.
abbrev pub machine_after : Opening → List (ℕ × Step) → Machine
machine_after key steps = run (opening_machine (states_of key) key.passes) steps

-- The machine allows each of the steps, and the words and the views show it after them. A view with
-- numbers knows which of the steps are its actor's.
pub record ShowsSteps
    (key : Opening)
    (steps : List (ℕ × Step))
    (shared : List ℕ)
    (known : List View)
    : Type 0 where
  pub shows : Shows key (machine_after key steps) shared known
  pub allowed : AreAllowed (opening_machine (states_of key) key.passes) steps
  pub own :
      (j n : ℕ) (v : View) → get_elem? known j ≡ some v → IsHead v.numbers n
      → v.taken ≡ steps_by n steps

-- The words and the views show the machine after some steps.
abbrev pub ShowsRun : Opening → TableState ℕ View → Type 0
ShowsRun key s = (steps : List (ℕ × Step)) × ShowsSteps key steps s.words s.views
