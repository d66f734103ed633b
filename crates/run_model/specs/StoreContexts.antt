-- What the lines on one store of entries have in common. The page table is such a store, and each
-- DMA window has one.
use Rattle.std.specs.Prelude.{ℕ, List, Option, Some, None}
use Rattle.bus_window.specs.Windows.{BusWindow}
use Rattle.frame_grants.specs.declared.grant.Grant.{Grant}
use Rattle.hpt_walk.specs.Access.{AccessContext, access_context}
use Rattle.hpte_fields.specs.TableSize.{least_order}

-- The store has 2 ^ order bytes, this memory is granted, and the entries are those of this window;
-- the page table's are no window's.
pub record StoreContext : Type 0 where
  pub order : ℕ
  pub grants : List Grant
  pub window : Option BusWindow

-- What accesses of processors depend on.
abbrev pub access_of : StoreContext → AccessContext
access_of context = access_context context.order context.grants

-- The context of the page table.
abbrev pub table_context : AccessContext → StoreContext
table_context context = record {
  order = context.order;
  grants = context.grants;
  window = None;
}

-- The store of a window has 2 ^ 18 bytes, and so as many entries as the largest window has pages.
abbrev pub window_context : List Grant → BusWindow → StoreContext
window_context grants w = record { order = least_order; grants = grants; window = Some w }

-- ---- without the size
-- What calls depend on apart from the store's size: the granted memory, and the window.
pub record StoreSurroundings : Type 0 where
  pub grants : List Grant
  pub window : Option BusWindow

-- The context of a store of 2 ^ order bytes with these.
abbrev pub context_on : ℕ → StoreSurroundings → StoreContext
context_on order around = record {
  order = order;
  grants = around.grants;
  window = around.window;
}
