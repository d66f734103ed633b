-- The stores of a run as a machine carries them: the page table, and each window with its entries'
-- states.
use Rattle.std.specs.Prelude.{List, ◌∷◌, map, length, None}
use Rattle.bus_window.specs.Windows.{BusWindow}
use Rattle.entry_model.specs.State.{State}
use Rattle.frame_grants.specs.declared.grant.Grant.{Grant}
use Rattle.hpt_resize.specs.TableMemory.{TableMemory}
use Rattle.tlb_model.specs.Processor.{Processor}
use Rattle.trace_read.specs.Configuration.{Configuration}
use Rattle.run_model.specs.Stores.{Store, page_table, opening_window, window_store}

-- A window, and the states of its entries.
pub record WindowState : Type 0 where
  pub window : BusWindow
  pub states : List State

-- The windows without what their entries hold.
abbrev pub windows_in : List WindowState → List BusWindow
windows_in vs = map (λ (v : WindowState). v.window) vs

-- All that is carried from line to line: the page table with its processors, and the windows.
pub record AllStores : Type 0 where
  pub table : Store
  pub windows : List WindowState

-- The window as a store beside the page table: where the same memory is granted, and there are as
-- many processors.
abbrev pub as_store : Store → WindowState → Store
as_store table v = window_store table.grants (length table.processors) v.states v.window

-- The page table, and each window.
abbrev pub all_stores : AllStores → List Store
all_stores s = s.table ∷ map (as_store s.table) s.windows

-- The page table of this memory, where this is granted, with these processors.
abbrev pub table_store : List Grant → TableMemory → List Processor → Store
table_store grants memory processors = record {
  grants = grants;
  window = None;
  memory = memory;
  processors = processors;
}

-- The stores of a machine with such a page table and these windows.
abbrev pub machine_stores :
    List Grant → TableMemory → List Processor → List WindowState → AllStores
machine_stores grants memory processors windows = record {
  table = table_store grants memory processors;
  windows = windows;
}

-- A window before the first line.
abbrev pub opened : BusWindow → WindowState
opened w = record { window = w; states = opening_window }

-- At first all entries of the windows are empty.
abbrev pub opening_all : Configuration → AllStores
opening_all c = record { table = page_table c; windows = map opened c.windows }
