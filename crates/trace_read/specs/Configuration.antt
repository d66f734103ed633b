-- The configuration of a partition: orders, processors, grants, opening entries and DMA windows,
-- with their limits.
use Rattle.std.specs.Prelude.{◌≡◌, ℕ, ◌<◌, ◌≤◌, List, [], ◌∷◌, length, Some}
use Rattle.std.specs.List.{AllByRecursion}
use Rattle.bus_window.specs.Windows.{BusWindow, IsWindow}
use Rattle.hpte_fields.specs.TableSize.{entry_count, least_order}
use Rattle.frame_grants.specs.declared.grant.Grant.{Grant}
use Rattle.frame_grants.specs.Grants.{GrantedMemory}
use Rattle.page_grants.specs.Suited.{entered_words}
use Rattle.table_image.specs.declared.entry.ImageEntry.{ImageEntry}

-- The order of the largest table of a trace.
abbrev pub greatest_trace_order : ℕ
greatest_trace_order = 22

-- A trace may have so many processors.
abbrev pub most_processors : ℕ
most_processors = 64

-- A table of a trace may have 2 ^ order bytes.
abbrev pub IsTraceOrder : ℕ → Type 0
IsTraceOrder order = (least_order ≤ order) × (order ≤ greatest_trace_order)

-- The order of the opening table, the highest order that the guest may ask for, the number of
-- processors, the grants and the pool of table memory, the entries that are valid in the opening
-- table, and the windows through which devices reach memory.
pub record Configuration : Type 0 where
  pub order : ℕ
  pub limit : ℕ
  pub cpus : ℕ
  pub granted : GrantedMemory
  pub entries : List ImageEntry
  pub windows : List BusWindow

-- Orders are those of a trace, there are no more processors than may be, and the pool is the one
-- recorded with the grants.
pub record AreSettings
    (order limit cpus pool_base pool_order : ℕ)
    (granted : GrantedMemory)
    : Type 0
  where
    pub at_least : least_order ≤ order
    pub within : order ≤ limit
    pub at_most : limit ≤ greatest_trace_order
    pub some : 1 ≤ cpus
    pub few : cpus ≤ most_processors
    pub base : granted.pool_base ≡ pool_base
    pub size : granted.pool_order ≡ pool_order

-- The settings may be, and the pool has room for the opening table.
pub record IsConfigured
    (order limit cpus pool_base pool_order : ℕ)
    (granted : GrantedMemory)
    : Type 0
  where
    pub settings : AreSettings order limit cpus pool_base pool_order granted
    pub room : order ≤ pool_order

-- ---- the entries of the opening table
-- The entry may lie in the opening table: its index is one of the table's, and H_ENTER would store
-- just these doublewords, R and C among them.
pub record IsOpeningEntry (order : ℕ) (grants : List Grant) (e : ImageEntry) : Type 0 where
  pub in_table : e.index < entry_count order
  pub stored : entered_words grants e.dword0 e.dword1 ≡ Some (e.dword0, e.dword1)

-- Each index is above those before it.
abbrev pub AreRising : List ImageEntry → Type 0
AreRising [] = Unit {0}
AreRising (e ∷ es) =
    AllByRecursion (λ (later : ImageEntry). e.index < later.index) es × AreRising es

-- Each may lie in the opening table, and their indices rise.
pub record AreOpeningEntries (order : ℕ) (grants : List Grant) (entries : List ImageEntry) : Type 0
  where
    pub each : AllByRecursion (IsOpeningEntry order grants) entries
    pub rising : AreRising entries

-- ---- the windows
-- No two have the same number.
abbrev pub NumbersDiffer : List BusWindow → Type 0
NumbersDiffer [] = Unit {0}
NumbersDiffer (w ∷ ws) =
    AllByRecursion (λ (later : BusWindow). ¬ (w.liobn ≡ later.liobn)) ws × NumbersDiffer ws

-- There can be each, there are at most four, and their numbers differ.
pub record AreWindows (windows : List BusWindow) : Type 0 where
  pub each : AllByRecursion IsWindow windows
  pub few : length windows ≤ 4
  pub differ : NumbersDiffer windows
