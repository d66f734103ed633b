-- What a page table becomes in another size: which entries are carried, where each goes, and where
-- two would meet.
use Rattle.hpte_fields.specs.TableSize.{entry_count}
use Rattle.std.specs.Prelude.{◌≡◌, ◌≢◌, ℕ, ◌+◌, ◌*◌, ◌%◌, ◌<◌, ◌&&◌, if◌then◌else◌, List, length, map, find, Option, Some, None, option_map, is_some}
use Rattle.std.specs.List.{range_with_len}
use Rattle.std.specs.Option.{option_and_then, option_map_or}
use Rattle.power_addr.specs.Pages.{VirtualPage}
use Rattle.hpte_fields.specs.Fields.{is_bolted, is_secondary}
use Rattle.hpt_hash.specs.Hash.{group_of}
use Rattle.hpt_hash.specs.Entries.{page_at}
use Rattle.entry_model.specs.State.{State, empty_state}
use Rattle.entry_model.specs.Run.{state_at}
use Rattle.hpt_resize.specs.declared.carry.Collision.{Collision}
use Rattle.basics.specs.Words.{is_number}

-- ---- one entry
-- The page of an entry that is carried: one that is valid and bolted, where it is the entry of a
-- page.
unfoldable pub carried_page : ℕ → State → ℕ → Option VirtualPage
carried_page from state index =
    if state.valid && is_bolted state.dword0
    then page_at from index state.dword0 state.dword1
    else None

-- It goes to the page's group in the new table, the primary one or with H set the secondary one,
-- and keeps its slot of the eight.
unfoldable pub target_of : ℕ → ℕ → State → ℕ → Option ℕ
target_of from to state index =
    option_map
    (λ page. group_of page to (is_secondary state.dword0) * 8 + index % 8)
    (carried_page from state index)

-- The entry as it is carried over: its doublewords, R and C at stamp 0.
abbrev pub at_stamp_0 : State → State
at_stamp_0 state = record state { stamp = 0 }

-- ---- the table
-- The target of the entry at an index, if it is carried.
abbrev pub target_at : ℕ → ℕ → List State → ℕ → Option ℕ
target_at from to states index = target_of from to (state_at states index) index

-- The lowest index below `second` whose entry goes to this target.
unfoldable pub first_with : ℕ → ℕ → List State → ℕ → ℕ → Option ℕ
first_with from to states second target =
    find (λ index. is_number target (target_at from to states index)) (range_with_len 0 second)

-- The collision of the entry at an index with the lowest one of its target, where there is one
-- before it.
unfoldable pub collision_at : ℕ → ℕ → List State → ℕ → Option Collision
collision_at from to states second =
    option_and_then
    (λ target.
    option_map
    (λ first. record { first = first; second = second; target = target })
    (first_with from to states second target))
    (target_at from to states second)

-- The collision of the lowest index that has one.
unfoldable pub collision_of : ℕ → ℕ → List State → Option Collision
collision_of from to states =
    option_and_then
    (collision_at from to states)
    (find
    (λ second. is_some (collision_at from to states second))
    (range_with_len 0 (length states)))

-- The new entry at an index: the one that goes there, or else an empty one.
unfoldable pub entry_at : ℕ → ℕ → List State → ℕ → State
entry_at from to states target =
    option_map_or
    (λ index. at_stamp_0 (state_at states index))
    (first_with from to states (length states) target)
    (empty_state 0)

-- The new table, where no two entries go to one index.
unfoldable pub rehashed_states : ℕ → ℕ → List State → List State
rehashed_states from to states = map (entry_at from to states) (range_with_len 0 (entry_count to))

-- ---- the same as relations
-- No entry before an index goes to this target.
abbrev pub NoneBefore : ℕ → ℕ → List State → ℕ → ℕ → Type 0
NoneBefore from to states second target =
    (index : ℕ) → index < second → target_at from to states index ≢ Some target

-- Before an index no two entries go to one target.
abbrev pub AreApartBelow : ℕ → ℕ → List State → ℕ → Type 0
AreApartBelow from to states index =
    (j k target : ℕ)
    → j < k
    → k < index
    → target_at from to states j ≡ Some target
    → target_at from to states k ≢ Some target

-- The two entries go to one target, no entry before the first does, and before the second no two go
-- to one.
pub record IsCollision (from to : ℕ) (states : List State) (collision : Collision) : Type 0 where
  pub rising : collision.first < collision.second
  pub in_table : collision.second < length states
  pub first_goes : target_at from to states collision.first ≡ Some collision.target
  pub second_goes : target_at from to states collision.second ≡ Some collision.target
  pub first_is_lowest : NoneBefore from to states collision.first collision.target
  pub second_is_lowest : AreApartBelow from to states collision.second

-- The entries before an index are carried: no two of them go to one target, each is at its target
-- with its doublewords, R and C, at stamp 0, and every other entry of the new table is empty at
-- stamp 0.
pub record IsPlacedBelow (from to : ℕ) (states new : List State) (index : ℕ) : Type 0 where
  pub long : length new ≡ entry_count to
  pub carried :
      (k target : ℕ)
      → k < index
      → target_at from to states k ≡ Some target
      → state_at new target ≡ at_stamp_0 (state_at states k)
  pub others :
      (target : ℕ)
      → NoneBefore from to states index target
      → state_at new target ≡ empty_state 0
  pub differ : AreApartBelow from to states index
