-- How marks of entries are taken: the indexes that are written, where to go on, and what stays.
use Rattle.std.specs.Prelude.{◌≡◌, ℕ, ◌+◌, ◌-◌, ◌&&◌, Bool, false, nat_lt, nat_le, if◌then◌else◌, List, [], ◌∷◌, ◌++◌, length, map, take, drop}
use Rattle.papr_codes.specs.ReturnCodes.{rc_code}
use Rattle.papr_codes.specs.declared.codes.Rc.TheVariants.{Success, Parameter}
use Rattle.c_layout.specs.Entries.{Entry, states_of}
use Rattle.c_layout.specs.Slots.{filled}
use Rattle.c_layout.specs.Tables.{is_table}
use Rattle.papr_c.specs.declared.taking.PaprTaken.{PaprTaken}

-- ---- what is found
-- The indexes of those entries that are marked, in ascending order, where the first has this index.
abbrev pub marked_from : ℕ → List Entry → List ℕ
marked_from index [] = []
marked_from index (e ∷ es) =
    if e.marked then index ∷ marked_from (index + 1) es else marked_from (index + 1) es

-- The index after the last of these, or this one where there is none.
abbrev pub behind : ℕ → List ℕ → ℕ
behind index [] = index
behind index (i ∷ is) = behind (i + 1) is

-- The indexes that are written, and the one from which to go on.
pub record Found : Type 0 where
  pub indexes : List ℕ
  pub next : ℕ

-- From the first index on, as many as there are slots. Where there are more slots all entries
-- were asked; else those up to the last one that is written.
abbrev pub found : List Entry → ℕ → ℕ → Found
found entries first room =
    let indexes = take room (marked_from first (drop first entries)) in
    record {
      indexes = indexes;
      next = if nat_lt (length indexes) room then length entries else behind first indexes;
    }

-- ---- what it leaves
-- The same entry, not marked.
abbrev pub without_mark : Entry → Entry
without_mark e = record { state = e.state; marked = false }

-- The entries from the first index on, up to the next one, aren't marked; the others are as they
-- were.
abbrev pub entries_without : ℕ → Found → List Entry → List Entry
entries_without first f entries =
    let rest = drop first entries in
    let asked = f.next - first in
    take first entries ++ (take asked (map without_mark rest) ++ drop asked rest)

-- The first slots have the indexes.
abbrev pub slots_after : Found → List ℕ → List ℕ
slots_after f slots = filled slots f.indexes

-- ---- the call
-- H_SUCCESS, how many indexes are written, and the next one.
abbrev pub marks_told : ℕ → ℕ → PaprTaken
marks_told count next = record { rc = rc_code Success; count = count; next = next }

-- H_PARAMETER, and no index.
abbrev pub refused_taking : PaprTaken
refused_taking = record { rc = rc_code Parameter; count = 0; next = 0 }

-- The entries are a table, and the index isn't above their number.
abbrev pub can_take : ℕ → List Entry → ℕ → Bool
can_take order entries first =
    is_table order (states_of entries) && nat_le first (length entries)

-- The answer and the slots; where the arguments are refused nothing changes.
abbrev pub outcome_of_taking : ℕ → List Entry → ℕ → List ℕ → PaprTaken × List ℕ
outcome_of_taking order entries first slots =
    let f = found entries first (length slots) in
    if can_take order entries first
    then (marks_told (length f.indexes) f.next, slots_after f slots)
    else (refused_taking, slots)

-- The entries after the call: those that were found are no longer marked.
abbrev pub entries_after_taking : ℕ → List Entry → ℕ → ℕ → List Entry
entries_after_taking order entries first room =
    if can_take order entries first
    then entries_without first (found entries first room) entries
    else entries

-- ---- asked until the end
-- What several calls wrote, one after the other and with nothing else between, and what they left.
pub record Told : Type 0 where
  pub indexes : List ℕ
  pub next : ℕ
  pub entries : List Entry

-- The marks that calls from this index on take, one after the other, each with its room.
abbrev pub asked_on : ℕ → List Entry → List ℕ → Told
asked_on first entries [] = record { indexes = []; next = first; entries = entries }
asked_on first entries (room ∷ rooms) =
    let f = found entries first room in
    let rest = asked_on f.next (entries_without first f entries) rooms in
    record {
      indexes = f.indexes ++ rest.indexes;
      next = rest.next;
      entries = rest.entries;
    }

-- Where they came to the end, the index of each marked entry was written once, and no mark is left.
abbrev pub EachMarkIsToldOnce : Type 0
EachMarkIsToldOnce =
    (entries : List Entry) (rooms : List ℕ)
    → (asked_on 0 entries rooms).next ≡ length entries
    → ((asked_on 0 entries rooms).indexes ≡ marked_from 0 entries)
    × (marked_from 0 (asked_on 0 entries rooms).entries ≡ [])
