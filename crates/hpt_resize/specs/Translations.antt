-- What a committed resize keeps: each bolted page's translation, with its doublewords, R and C.
use Rattle.std.specs.Prelude.{◌≡◌, ℕ, ◌<◌, true, Some, length}
use Rattle.power_addr.specs.Pages.{VirtualPage}
use Rattle.hpt_hash.specs.Entries.{page_at}
use Rattle.entry_model.specs.Run.{state_at}
use Rattle.hpt_resize.specs.Rehash.{target_at, at_stamp_0, carried_page}
use Rattle.hpt_resize.specs.Resize.{Table}

-- The entry of the old table goes to an index of the new one, has there its doublewords, R and C at
-- stamp 0, and is an entry of this page.
pub record StandsThere (old new : Table) (entry : ℕ) (page : VirtualPage) : Type 0 where
  pub index : ℕ
  pub goes : target_at old.order new.order old.states entry ≡ Some index
  pub kept : state_at new.states index ≡ at_stamp_0 (state_at old.states entry)
  pub found :
      page_at new.order index (state_at new.states index).dword0 (state_at new.states index).dword1
      ≡ Some page

-- The entry of the new table is one of the old table's that are carried.
pub record WasCarried (old new : Table) (index : ℕ) : Type 0 where
  pub entry : ℕ
  pub page : VirtualPage
  pub in_table : entry < length old.states
  pub carried : carried_page old.order (state_at old.states entry) entry ≡ Some page
  pub goes : target_at old.order new.order old.states entry ≡ Some index

-- Each bolted entry of a page is carried to the new table, and each valid entry of the new table
-- was carried there.
pub record KeepsTranslations (old new : Table) : Type 0 where
  pub carried :
      (entry : ℕ) (page : VirtualPage)
      → carried_page old.order (state_at old.states entry) entry ≡ Some page
      → StandsThere old new entry page
  pub from_old :
      (index : ℕ) → (state_at new.states index).valid ≡ true → WasCarried old new index
