-- The table that is being prepared: how many of its entries are ready, and what a call adds.
use Rattle.std.specs.Prelude.{◌≡◌, ℕ, ◌+◌, ◌≤◌, ◌==◌, Bool, List, length, min, replicate}
use Rattle.entry_model.specs.State.{State, empty_state}
use Rattle.hpte_fields.specs.TableSize.{IsTableOrder, entry_count}

-- It has 2 ^ order bytes at place in the pool, and so many of its entries are ready.
pub record PendingTable : Type 0 where
  pub order : ℕ
  pub place : ℕ
  pub ready : ℕ

-- A table of this order at this place, of which no entry is ready.
abbrev pub no_entries : ℕ → ℕ → PendingTable
no_entries order place = record { order = order; place = place; ready = 0 }

-- All its entries are ready.
abbrev pub is_ready : PendingTable → Bool
is_ready table = table.ready == entry_count table.order

-- One call makes the next 16,384 entries ready, or all that are left where these are fewer.
abbrev pub with_more_ready : PendingTable → PendingTable
with_more_ready table = record table { ready = min (table.ready + 16384) (entry_count table.order) }

-- Its order is one that a table can have, its ready entries are empty, and there is room for all
-- entries and for no more.
pub record IsPreparing (order : ℕ) (states : List State) (capacity : ℕ) : Type 0 where
  pub order_fits : IsTableOrder order
  pub ready : length states ≤ entry_count order
  pub empty : states ≡ replicate (length states) (empty_state 0)
  pub room : capacity ≡ entry_count order
