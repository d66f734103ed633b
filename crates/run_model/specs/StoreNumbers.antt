-- The stores of a run by their numbers, and the store that a line is on. 0 is the page table's
-- number, and each window has one more than its index among the windows.
use Rattle.std.specs.Prelude.{◌≡◌, ℕ, suc, ◌==◌, List, [], ◌∷◌, length, filter, slice_index_or, Option, Some, None, if◌then◌else◌}
use Rattle.bus_window.specs.Windows.{BusWindow}
use Rattle.trace_line.specs.declared.act.Act.{Act}
use Rattle.trace_line.specs.declared.line.TraceLine.{TraceLine}
use Rattle.trace_read.specs.Configuration.{NumbersDiffer}
use Rattle.trace_reply.specs.Replies.{RepliedLine}
use Rattle.run_model.specs.AllStores.{WindowState, AllStores, all_stores, windows_in}
use Rattle.run_model.specs.Stores.{Store, is_on_window}

-- ---- a store
-- The store of this number.
abbrev pub store_at : AllStores → ℕ → Store
store_at s number = slice_index_or (all_stores s) number s.table

-- The first store is the page table, and the numbers of the windows differ.
pub record AreNamed (s : AllStores) : Type 0 where
  pub table : s.table.window ≡ None
  pub differ : NumbersDiffer (windows_in s.windows)

-- What a section leaves as it is: which windows there are, how many processors, and the number of
-- the page table.
pub record Stays (s later : AllStores) : Type 0 where
  pub windows : windows_in later.windows ≡ windows_in s.windows
  pub processors : length later.table.processors ≡ length s.table.processors
  pub number : later.table.memory.table.number ≡ s.table.memory.table.number

-- ---- the store of a line
-- The index of the first window that the line names, where the first has this one. None where it
-- names none of them.
abbrev pub index_from : ℕ → List WindowState → Act → Option ℕ
index_from at [] act = None
index_from at (v ∷ vs) act =
    if is_on_window v.window act then Some at else index_from (suc at) vs act

-- The number of the window that the line names, where the first of these has the given one; 0 where
-- it names none of them.
abbrev pub store_from : ℕ → List BusWindow → Act → ℕ
store_from number [] act = 0
store_from number (w ∷ ws) act =
    if is_on_window w act then number else store_from (suc number) ws act

-- The number of the store that a line is on.
abbrev pub store_of : List BusWindow → Act → ℕ
store_of ws act = store_from 1 ws act

-- The lines on a store, in file order.
abbrev pub lines_on_store : List BusWindow → ℕ → List TraceLine → List TraceLine
lines_on_store ws store lines = filter (λ (l : TraceLine). store_of ws l.act == store) lines

-- The lines on a store with their replies, in file order.
abbrev pub replied_on_store : List BusWindow → ℕ → List RepliedLine → List RepliedLine
replied_on_store ws store ts =
    filter (λ (t : RepliedLine). store_of ws t.line.act == store) ts
