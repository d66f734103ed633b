-- What is proved of an opening table, and of the resize calls: a committed resize keeps each bolted
-- page's translation.
use Rattle.std.specs.Prelude.{◌≡◌, ◌≢◌, ◌≤◌, ℕ, ◌/◌, ◌%◌, ◌<◌, ◌↔◌, true, IsTrue, List, length, Some}
use Rattle.std.specs.List.{AllByRecursion}
use Rattle.power_addr.specs.Pages.{VirtualPage}
use Rattle.hpte_fields.specs.Fields.{is_bolted, is_secondary}
use Rattle.hpt_hash.specs.Hash.{group_of}
use Rattle.frame_grants.specs.declared.grant.Grant.{Grant}
use Rattle.page_grants.specs.Suited.{entered_words}
use Rattle.table_image.specs.declared.entry.ImageEntry.{ImageEntry}
use Rattle.trace_read.specs.Configuration.{Configuration, AreOpeningEntries}
use Rattle.entry_model.specs.State.{State, IsCanonicalState, empty_state}
use Rattle.entry_model.specs.Reply.{entered_state, words_of}
use Rattle.entry_model.specs.Run.{state_at}
use Rattle.hpt_walk.specs.Laws.{IsEntryState}
use Rattle.hpt_walk.specs.Translations.{translations, is_paired}
use Rattle.papr_codes.specs.declared.codes.Rc.TheVariants.{Success}
use Rattle.hpt_resize.specs.Rehash.{at_stamp_0}
use Rattle.hpte_fields.specs.TableSize.{entry_count, least_order}
use Rattle.hpt_resize.specs.Translations.{KeepsTranslations}
use Rattle.hpt_resize.specs.Resize.{Table}
use Rattle.hpt_resize.specs.TableMemory.{TableMemory, commit_result}
use Rattle.partition.specs.PartitionState.{opening_partition}

-- ---- the opening table
-- The entry with this index is valid at stamp 0, and has these doublewords with R and C put back.
pub record IsOpenedAt (states : List State) (e : ImageEntry) : Type 0 where
  pub in_table : e.index < length states
  pub valid : (state_at states e.index).valid ≡ true
  pub words : words_of (state_at states e.index) ≡ (e.dword0, e.dword1)
  pub canonical : IsCanonicalState (state_at states e.index)
  pub stamp : (state_at states e.index).stamp ≡ 0

-- The first table of a partition, of 2 ^ order bytes: it has each of these entries, and every other
-- one is empty at stamp 0.
pub record IsOpeningTable (order : ℕ) (entries : List ImageEntry) (table : Table) : Type 0 where
  pub order_is : table.order ≡ order
  pub number : table.number ≡ 0
  pub whole : length table.states ≡ entry_count order
  pub opened : AllByRecursion (IsOpenedAt table.states) entries
  pub others :
      (index : ℕ)
      → AllByRecursion (λ (e : ImageEntry). index ≢ e.index) entries
      → state_at table.states index ≡ empty_state 0

-- Each partition opens with such a table, where its entries may lie in it.
abbrev pub OpensWithEntries : Type 0
OpensWithEntries =
    (config : Configuration)
    → AreOpeningEntries config.order config.granted.grants config.entries
    → IsOpeningTable config.order config.entries (opening_partition config).memory.table

-- ---- a table that is opened again
-- The words of an entry, with R and C put back, are some that H_ENTER would store as they are; and
-- what opens with them is the entry's state at stamp 0.
pub record CanBeOpened (grants : List Grant) (s : State) : Type 0 where
  pub stored : entered_words grants (words_of s).0 (words_of s).1 ≡ Some (words_of s)
  pub state : entered_state (words_of s).0 (words_of s).1 ≡ at_stamp_0 s

-- A valid entry whose doublewords without R and C are words that H_ENTER stores can be opened
-- again.
abbrev pub OpensAgain : Type 0
OpensAgain =
    (grants : List Grant) (s : State)
    → IsCanonicalState s
    → s.valid ≡ true
    → entered_words grants s.dword0 s.dword1 ≡ Some (s.dword0, s.dword1)
    → CanBeOpened grants s

-- ---- the resize calls
-- The table pairs the page with this entry.
abbrev pub Translates : Table → VirtualPage → ℕ → Type 0
Translates table page entry = IsTrue (is_paired (translations table.order table.states) page entry)

-- A bolted entry of the page, whose group for its H in a table of 2 ^ order bytes is that of the
-- target, and whose slot is the target's.
pub record IsSource (table : Table) (order : ℕ) (page : VirtualPage) (target : ℕ) : Type 0 where
  pub entry : ℕ
  pub in_table : entry < length table.states
  pub translates : Translates table page entry
  pub bolted : IsTrue (is_bolted (state_at table.states entry).dword0)
  pub group : group_of page order (is_secondary (state_at table.states entry).dword0) ≡ target / 8
  pub slot : entry % 8 ≡ target % 8

-- The new table pairs a page with an entry exactly if one of the old table's bolted entries of
-- the page goes there, and that entry has its doublewords, R and C.
pub record PairsCarriedPages (old new : Table) : Type 0 where
  pub pairs :
      (page : VirtualPage) (target : ℕ)
      → target < length new.states
      → Translates new page target ↔ IsSource old new.order page target
  pub kept :
      (page : VirtualPage) (target : ℕ) (source : IsSource old new.order page target)
      → state_at new.states target ≡ at_stamp_0 (state_at old.states source.entry)
  pub in_table :
      (page : VirtualPage) (target : ℕ)
      → IsSource old new.order page target
      → target < length new.states

-- Each commit that succeeds, on entries as tables have them, pairs the carried pages.
abbrev pub CommitPairsCarriedPages : Type 0
CommitPairsCarriedPages =
    (memory : TableMemory) (flags shift : ℕ)
    → AllByRecursion IsEntryState memory.table.states
    → (commit_result memory flags shift).0 ≡ Success
    → PairsCarriedPages memory.table (commit_result memory flags shift).1.table

-- ---- two ways to say what is kept
-- A new table that keeps each bolted page's translation pairs the carried pages.
abbrev pub KeptTranslationsArePaired : Type 0
KeptTranslationsArePaired =
    (old new : Table)
    → least_order ≤ new.order
    → length new.states ≡ entry_count new.order
    → KeepsTranslations old new
    → PairsCarriedPages old new
