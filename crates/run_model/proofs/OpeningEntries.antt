-- What holds of an empty entry and of each entry that is valid at first holds of each opening
-- state.
use Rattle.std.proofs.Common.{◌≡◌, ℕ, List, [], ◌∷◌, Some}
use Rattle.std.specs.List.{AllByRecursion}
use Rattle.frame_grants.specs.declared.grant.Grant.{Grant}
use Rattle.hpte_fields.specs.TableSize.{entry_count}
use Rattle.page_grants.specs.Suited.{entered_words}
use Rattle.call_plan.proofs.Suited.{entered_suited}
use Rattle.table_image.specs.declared.entry.ImageEntry.{ImageEntry}
use Rattle.trace_read.specs.Configuration.{Configuration, IsOpeningEntry, AreOpeningEntries}
use Rattle.entry_model.specs.State.{State, empty_state}
use Rattle.entry_model.specs.Reply.{entered_state}
use Rattle.hpt_walk.proofs.Granted.{IsGranted, granted_stay}
use Rattle.hpt_resize.specs.TableMemory.{opening_memory, empty_states, with_entries}
use Rattle.hpt_resize.proofs.OpeningStates.{with_entry}
use Rattle.run_model.specs.Stores.{states_of, page_table}
use Rattle.basics.proofs.Each.{each_map, each_set, each_replicate}
use Rattle.run_model.proofs.SafeReplies.{suited_granted}

each_with_entries :
    (P : State → Type 0) (states : List State) (es : List ImageEntry)
    → AllByRecursion P states
    → AllByRecursion (λ (e : ImageEntry). P (entered_state e.dword0 e.dword1)) es
    → AllByRecursion P (with_entries states es)
each_with_entries P states [] h k = h
each_with_entries P states (e ∷ es) h k =
    each_with_entries P (with_entry states e) es
    (each_set P states e.index (entered_state e.dword0 e.dword1) k.0 h) k.1

pub each_opening :
    (P : State → Type 0) (c : Configuration)
    → P (empty_state 0)
    →
    ((e : ImageEntry)
    → IsOpeningEntry c.order c.granted.grants e
    → P (entered_state e.dword0 e.dword1))
    → AreOpeningEntries c.order c.granted.grants c.entries
    → AllByRecursion P (states_of (page_table c))
unfolding page_table opening_memory empty_states
each_opening P c empty entered is =
    each_with_entries P (empty_states c.order) c.entries
    (each_replicate P (entry_count c.order) (empty_state 0) empty)
    (each_map (IsOpeningEntry c.order c.granted.grants)
    (λ (e : ImageEntry). P (entered_state e.dword0 e.dword1)) c.entries entered is.each)

-- The page of words that H_ENTER would store is granted.
pub entered_granted :
    (grants : List Grant) (dword0 dword1 : ℕ)
    → entered_words grants dword0 dword1 ≡ Some (dword0, dword1)
    → IsGranted grants (entered_state dword0 dword1)
entered_granted grants dword0 dword1 stored =
    λ _.
    (granted_stay grants).entered dword0 dword1
    (suited_granted grants dword0 dword1
    (entered_suited grants dword0 dword1 (dword0, dword1) stored))
