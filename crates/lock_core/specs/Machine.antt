-- The machine: entries, and actors that take steps on them.
use Rattle.std.specs.Prelude.{ℕ, ◌≡◌, ◌==◌, ◌&&◌, Bool, true, false, if◌then◌else◌, nat_lt, List, [], ◌∷◌, map, find, length, replicate, slice_index_or, slice_set, Option, Some, None, option_map}
use Rattle.std.specs.Option.{option_or}
use Rattle.entry_model.specs.State.{State, empty_state}
use Rattle.entry_model.specs.declared.receipt.Receipt.{Receipt}
use Rattle.entry_model.specs.Receipt.{is_decided}
use Rattle.lock_core.specs.declared.control.Control.{Control}
use Rattle.lock_core.specs.declared.entry.Entry.{Entry}
use Rattle.lock_core.specs.declared.phase.Phase.{Phase}
use Rattle.lock_core.specs.declared.phase.Phase.TheVariants.{Idle, Held, HeldShut, Looked}
use Rattle.lock_core.specs.declared.sighting.Sighting.{Sighting}
use Rattle.lock_core.specs.Words.{unheld_entry}

-- An actor: whether it is live, the phase of its operation, the receipts that it made, and the
-- lines that it has seen.
pub record Actor : Type 0 where
  pub live : Bool
  pub phase : Phase
  -- in the order of their making; those that a join brought come after those that were there
  pub receipts : List Receipt
  pub lines : List Sighting

-- The machine: the opening states, the entries, and the actors.
pub record Machine : Type 0 where
  -- the state of each entry before all steps
  pub opening : List State
  pub entries : List Entry
  pub actors : List Actor

-- How many actors there are at most.
abbrev pub most_actors : ℕ
most_actors = 64

-- An actor that isn't live.
abbrev pub nobody : Actor
nobody = record { live = false; phase = Idle; receipts = []; lines = [] }

-- A live actor that has made nothing, and has seen these lines.
abbrev pub newcomer : List Sighting → Actor
newcomer lines = record { live = true; phase = Idle; receipts = []; lines = lines }

-- Actor 0 is live and the others are not.
unfoldable pub opening_machine : List State → ℕ → Machine
opening_machine states actors = record {
  opening = states;
  entries = map unheld_entry states;
  actors = slice_set (replicate actors nobody) 0 (newcomer []);
}

-- ---- parts
-- Beyond the last actor there is nobody.
abbrev pub actor_at : Machine → ℕ → Actor
actor_at m i = slice_index_or m.actors i nobody

-- The entry at an index; beyond the table an empty one.
abbrev pub entry_at : Machine → ℕ → Entry
entry_at m e = slice_index_or m.entries e (unheld_entry (empty_state 0))

-- The opening state of an entry.
abbrev pub opening_at : Machine → ℕ → State
opening_at m e = slice_index_or m.opening e (empty_state 0)

-- An actor in the phase has the entry's lock.
abbrev pub HoldsEntry : ℕ → Phase → Type 0
HoldsEntry e Idle = ⊥
HoldsEntry e (Held d) = d.entry ≡ e
HoldsEntry e (HeldShut d) = d.entry ≡ e
HoldsEntry e (Looked d) = ⊥

-- The machine's table has this entry.
abbrev pub in_table : Machine → ℕ → Bool
in_table m e = nat_lt e (length m.entries)

-- ---- lines
-- The line of an entry in a state.
abbrev pub sighting_of : ℕ → State → Sighting
sighting_of e s = record { entry = e; stamp = s.stamp; dword0 = s.dword0; dword1 = s.dword1 }

-- The lines that a receipt shows: its entry's in the state before, where the answer used the
-- translation.
abbrev pub shown_sightings : Receipt → List Sighting
shown_sightings r = if is_decided r.answer then sighting_of r.entry r.before ∷ [] else []

-- The line is of this entry at this stamp.
abbrev pub is_at : ℕ → ℕ → Sighting → Bool
is_at e stamp line = (line.entry == e) && (line.stamp == stamp)

-- The line's doublewords.
abbrev pub words_in : Sighting → ℕ × ℕ
words_in line = (line.dword0, line.dword1)

-- The doublewords of an entry that was valid at a stamp.
abbrev pub words_at : State → ℕ → Option (ℕ × ℕ)
words_at s stamp = if s.valid && (s.stamp == stamp) then Some (s.dword0, s.dword1) else None

-- The doublewords at this stamp of an entry with this opening state, as an actor with these lines
-- has seen them: in a line of its list, or in the opening state.
unfoldable pub words_seen_in : List Sighting → State → ℕ → ℕ → Option (ℕ × ℕ)
words_seen_in lines start e stamp =
    option_or (option_map words_in (find (is_at e stamp) lines)) (words_at start stamp)

-- What an actor that finds a control word has seen of its entry at its stamp.
unfoldable pub words_seen : Machine → Actor → ℕ → Control → Option (ℕ × ℕ)
words_seen m a e k = if k.valid then words_seen_in a.lines (opening_at m e) e k.stamp else None
