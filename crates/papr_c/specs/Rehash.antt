-- What a rehash by C leaves: its answer, and the entries of the new table.
use Rattle.std.specs.Prelude.{ℕ, ◌-◌, ◌&&◌, true, false, if◌then◌else◌, List, ◌++◌, length, map, take, drop, replicate, Option, Some, None}
use Rattle.hpte_fields.specs.TableSize.{entry_count}
use Rattle.papr_codes.specs.ReturnCodes.{rc_code}
use Rattle.papr_codes.specs.declared.codes.Rc.{Rc}
use Rattle.papr_codes.specs.declared.codes.Rc.TheVariants.{Success, Parameter, PtegFull}
use Rattle.entry_model.specs.State.{State, empty_state}
use Rattle.hpt_resize.specs.declared.carry.Collision.{Collision}
use Rattle.hpt_resize.specs.Rehash.{collision_of, rehashed_states}
use Rattle.papr_c.specs.declared.rehashing.PaprRehash.{PaprRehash}
use Rattle.c_layout.specs.Tables.{is_table}
use Rattle.c_layout.specs.Entries.{Entry, states_of, entry_with, entries_with}

-- ---- answers
-- The code of a rehash that isn't made, and nothing else.
abbrev pub refused_rehash : Rc → PaprRehash
refused_rehash rc = record {
  rc = rc_code rc;
  first = 0;
  second = 0;
  target = 0;
  stale = false;
}

-- H_SUCCESS, after which no cached translation is of the new table, or H_PTEG_FULL and the two
-- entries that would meet.
abbrev pub rehash_told : Option Collision → PaprRehash
rehash_told None = record {
  rc = rc_code Success;
  first = 0;
  second = 0;
  target = 0;
  stale = true;
}
rehash_told (Some c) = record {
  rc = rc_code PtegFull;
  first = c.first;
  second = c.second;
  target = c.target;
  stale = false;
}

-- ---- outcomes
-- The new table: with each entry that is carried, or empty where two would meet.
abbrev pub table_after : Option Collision → ℕ → ℕ → List State → List State
table_after None from to entries = rehashed_states from to entries
table_after (Some c) from to entries = replicate (entry_count to) (empty_state 0)

-- A rehash where both are tables; otherwise the answer is H_PARAMETER, and nothing changes.
abbrev pub outcome_of_rehash : ℕ → List State → ℕ → List State → PaprRehash × List State
outcome_of_rehash from entries to into =
    if is_table from entries && is_table to into
    then (
      rehash_told (collision_of from to entries),
      table_after (collision_of from to entries) from to entries,
    )
    else (refused_rehash Parameter, into)

-- ---- marks
-- The entries, each of them empty at stamp 0: marked if it was, or if it had another state.
abbrev pub emptied_entries : List Entry → List Entry
emptied_entries entries = map (λ (e : Entry). entry_with e (empty_state 0)) entries

-- The entries, of which those from one index up to another are emptied; the others are as they
-- were.
abbrev pub emptied_between : ℕ → ℕ → List Entry → List Entry
emptied_between first end entries =
    let rest = drop first entries in
    take first entries
    ++ (take (end - first) (emptied_entries rest) ++ drop (end - first) rest)

-- Empty entries, each of them marked.
abbrev pub wiped_entries : List Entry → List Entry
wiped_entries entries =
    replicate (length entries) (record { state = empty_state 0; marked = true })

-- Each entry of the new table was emptied, and then took the state that was carried to it, so each
-- that is valid is marked. Where two would meet all are.
abbrev pub entries_after : Option Collision → ℕ → ℕ → List State → List Entry → List Entry
entries_after None from to entries into =
    entries_with (emptied_entries into) (rehashed_states from to entries)
entries_after (Some c) from to entries into = wiped_entries into

-- Where both are tables; otherwise nothing changes.
abbrev pub rehashed_entries : ℕ → List State → ℕ → List Entry → List Entry
rehashed_entries from entries to into =
    if is_table from entries && is_table to (states_of into)
    then entries_after (collision_of from to entries) from to entries into
    else into
